-- The step of one word said by numbers alone: those of the phase before (`phase_numbers`), of the word's class (`class_number_of`: 1 byte form,
-- 3 the separator 309h, 4 the end code 30Ah, 6 the null word 100h) and of the word's low byte; into those of what is reported (`met_numbers`)
-- and of the next phase.
-- Assumes nothing.
use Rattle.std.specs.Prelude.{ℕ, ◌+◌, ◌*◌, Bool, ◌&&◌, ◌||◌, not, List, [], ◌∷◌, ◌++◌, eqb, leb, ltb, length, get_or, take, drop}
use Rattle.lists.specs.Tests.{pick}

-- a null's phases, 4 and 5, hold no type; what stands behind the type: the count bytes so far, or the count and the number collected
abbrev pub type_in : List ℕ → List ℕ
type_in p = pick (ltb (get_or p 0 0) 4) (take 1 (drop 1 p)) []

abbrev pub rest_in : List ℕ → List ℕ
rest_in p = drop (length (type_in p)) (drop 1 p)

abbrev pub in_data : List ℕ → Bool
in_data p = eqb (get_or p 0 0) 3 || eqb (get_or p 0 0) 5

-- what the count bytes spell with the last one, lowest byte first
abbrev pub spelt : List ℕ → ℕ → ℕ
spelt bs byte = get_or bs 0 0 + get_or bs 1 0 * 256 + get_or bs 2 0 * 65536 + byte * 16777216

-- Data: 30Ah with the count 0 or met hands out the block, and of a null nothing; else it is drop 4. A data word past a met count is drop 5; one
-- past the room with no count is drop 6; 100h in 8-bit mode is drop 7; else nothing is reported.
unfoldable pub data_met : ℕ → ℕ → List ℕ → ℕ → ℕ → ℕ → List ℕ
data_met mode room type n m class =
    pick (eqb class 4) (pick (eqb n 0 || eqb n m) (pick (eqb (length type) 0) (0 ∷ []) (2 ∷ type ++ (m ∷ []))) (3 ∷ 4 ∷ []))
    (pick (not (eqb n 0) && leb n m) (3 ∷ 5 ∷ [])
    (pick (eqb n 0 && leb room m) (3 ∷ 6 ∷ []) (pick (eqb class 6 && eqb mode 8) (3 ∷ 7 ∷ []) (0 ∷ []))))

-- Idle reports nothing. In any open phase 309h is drop 1. Type or count: 30Ah is drop 4; a word not in byte form is drop 2 (type, 100h apart) or
-- 3 (count); a count above the room's length is drop 3.
unfoldable pub met_by : ℕ → ℕ → List ℕ → ℕ → ℕ → List ℕ
met_by mode room p class byte =
    let stage = get_or p 0 0 in
    let rest = rest_in p in
    pick (eqb stage 0) (0 ∷ [])
    (pick (eqb class 3) (3 ∷ 1 ∷ [])
    (pick (in_data p) (data_met mode room (type_in p) (get_or rest 0 0) (get_or rest 1 0) class)
    (pick (eqb class 4) (3 ∷ 4 ∷ [])
    (pick (eqb class 1) (pick (eqb (length rest) 3 && ltb room (spelt rest byte)) (3 ∷ 3 ∷ []) (0 ∷ []))
    (pick (eqb stage 1) (pick (eqb class 6) (0 ∷ []) (3 ∷ 2 ∷ [])) (3 ∷ 3 ∷ []))))))

-- where nothing is reported: idle stays idle; the type is held, or the null marked; a count byte is held, and the fourth leads to data; a null
-- that ended leads to idle; a data word is collected
unfoldable pub gone_on : List ℕ → ℕ → ℕ → List ℕ
gone_on p class byte =
    let stage = get_or p 0 0 in
    let rest = rest_in p in
    pick (eqb stage 0) (0 ∷ [])
    (pick (eqb stage 1) (pick (eqb class 6) (4 ∷ []) (2 ∷ byte ∷ []))
    (pick (not (in_data p)) (pick (eqb (length rest) 3) ((stage + 1) ∷ type_in p ++ (spelt rest byte ∷ 0 ∷ [])) (p ++ (byte ∷ [])))
    (pick (eqb class 4) (0 ∷ []) (stage ∷ type_in p ++ (get_or rest 0 0 ∷ (get_or rest 1 0 + 1) ∷ [])))))

-- 309h leads to type awaited, from every phase; a block handed out and all drops but 1 lead to idle
unfoldable pub phase_by : ℕ → ℕ → List ℕ → ℕ → ℕ → List ℕ
phase_by mode room p class byte =
    pick (eqb class 3) (1 ∷ []) (pick (eqb (get_or (met_by mode room p class byte) 0 0) 0) (gone_on p class byte) (0 ∷ []))
