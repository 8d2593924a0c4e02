-- The words of a block, and filler, from idle: a whole block is handed out at its last word; a block without its first word is passed over.
-- Assumes nothing.
use Prim.Native.Nat.{ℕ, zero, suc, ◌+◌, ◌*◌, ◌/◌, ◌%◌, ◌≤◌, ◌<◌}
use mathlib.Core.Bool.{Bool, true, false, ◌&&◌, not}
use mathlib.Core.List.{List, [], ◌∷◌, ◌++◌, map}
use mathlib.Core.Path.{◌≡◌, refl, sym, ap, ap₂, ◌∙◌, subst}
use native.Mathlib.Nat.{zero-add}
use native.Mathlib.Numerals.{add-one}
use native.Mathlib.Omega.{arith}
use lib.Dec.{T, eqb, leb, ltb}
use lib.ListN.{length, take, drop, set, replicate, length-map, length-set}
use lib.Seq.{sets, sets-eq, take-length, take-append_seam, take-append-le}
use borrow.Author.Tests.{ltb-true, le-ltb, lt-leb, eq-eqb}
use Rattle.lists.specs.Tests.{pick}
use Rattle.lists.specs.Lists.{each}
use Rattle.lists.proofs.Tests.{or_right, false_or, both_true, pick_true, pick_false, and_none}
use Rattle.lists.proofs.Lists.{each_append, each_map, each_take, each_drop}
use Rattle.words.specs.Forms.{is_data, is_byte, data_word, byte_word}
use Rattle.words.specs.Modes.{values, word_of, value_of}
use Rattle.words.specs.Class.{class_of, is_code, separator, end_code, null_word}
use Rattle.words.specs.declared.class.Class.TheVariants.{Byte, Other, Separator, Ending, Illegal, Null}
use Rattle.words.proofs.FormLaws.{byte_low, data_in, byte_data, value_back}
use Rattle.words.proofs.ClassLaws.{class_byte, code_not_data, code_class}
use Rattle.machine.specs.declared.phase.Mark.{Mark}
use Rattle.machine.specs.declared.phase.Mark.TheVariants.{Typed}
use Rattle.machine.specs.declared.phase.Phase.{Phase}
use Rattle.machine.specs.declared.phase.Phase.TheVariants.{Idle, Kind, First, Second, Third, Fourth, Data}
use Rattle.machine.specs.declared.step.Met.TheVariants.{Whole}
use Rattle.machine.specs.declared.step.Step.{Step}
use Rattle.machine.specs.Machine.{on, dropped, idle_step, counted, end_step, value_step, step_by, step_of}
use Rattle.machine.specs.Walk.{collected_of, stored}
use Rattle.machine.proofs.RunLaws.{collecting, data_class, value_kept}
use Rattle.writer.specs.Block.{count_words, block_words}
use Rattle.writer.specs.State.{most}
use Rattle.writer.specs.Adding.{valued}
use Rattle.writer.proofs.Legal.{each_filler, byte_any, value_some}
use Rattle.demands.specs.Hearing.{Heard, is_block}
use Rattle.demands.proofs.Run.{Now, now, idle, met_heard, step_to, step_out, run_to, run_out}
use Rattle.demands.proofs.RunLaws.{run_to_append, run_out_append}

-- a block that an addition takes: type at most FFh, at most 16,384 values, each a value of the mode
pub record Shaped (mode kind : ℕ) (vs : List ℕ) : Type 0 where
  pub small : kind ≤ 255
  pub at_most : length vs ≤ most
  pub values_fit : valued mode vs ≡ true

-- ---- words of each kind
value_by : (m : Bool) (v : ℕ) → v < pick m 256 512 → is_data (pick m (byte_word v) (data_word v)) ≡ true
unfolding pick
value_by true v h = byte_data (byte_word v) (byte_any v)
value_by false v h = data_in v h

value_data : (mode v : ℕ) → ltb v (values mode) ≡ true → is_data (word_of mode v) ≡ true
unfolding values word_of
value_data mode v e = value_by (eqb mode 8) v (ltb-true v _ e)

-- what is in data form is no code
not_code : (w code : ℕ) → is_data code ≡ false → is_data w ≡ true → eqb w code ≡ false
not_code w code n d = go (eqb w code) refl
  where
    go : (b : Bool) → eqb w code ≡ b → b ≡ false
    go true e = absurd (subst T (sym d ∙ code_not_data w code n e) tt)
    go false e = refl

separator_not_data : is_data separator ≡ false
unfolding is_data
separator_not_data = refl

end_not_data : is_data end_code ≡ false
unfolding is_data
end_not_data = refl

data_no_code : (w : ℕ) → is_data w ≡ true → is_code (class_of w) ≡ false
data_no_code w d = sym (code_class w) ∙ false_or (not_code w separator separator_not_data d) (not_code w end_code end_not_data d)

-- ---- idle passes over every word but 309h
abbrev passes : ℕ → Bool
passes w = not (eqb w separator)

data_passes : (w : ℕ) → is_data w ≡ true → passes w ≡ true
data_passes w d = ap not (not_code w separator separator_not_data d)

idle_by : (b z d s e : Bool) → not s ≡ true → idle_step (pick b Byte (pick z Null (pick d Other (pick s Separator (pick e Ending Illegal))))) ≡ on Idle
unfolding pick
idle_by true z d s e h = refl
idle_by false true d s e h = refl
idle_by false false true s e h = refl
idle_by false false false true e h = absurd (subst T (sym h) tt)
idle_by false false false false true h = refl
idle_by false false false false false h = refl

idle_step_lem : (mode room w : ℕ) → passes w ≡ true → step_of mode room Idle w ≡ on Idle
unfolding step_of class_of
idle_step_lem mode room w h = idle_by (is_byte w) (eqb w null_word) (is_data w) (eqb w separator) (eqb w end_code) h

-- ---- one word, where its step is known
-- a word with which nothing is reported and nothing kept
quiet_to : (mode : ℕ) (p next : Phase) (room : List ℕ) (w : ℕ) → step_of mode (length room) p w ≡ on next → step_to mode (now p room) w ≡ now next room
unfolding step_to stored pick
quiet_to mode p next room w e = ap (λ (s : Step). now s.phase (stored s.keeps (collected_of p) (value_of mode w) room)) e

quiet_out : (mode : ℕ) (p next : Phase) (room : List ℕ) (w : ℕ) → step_of mode (length room) p w ≡ on next → step_out mode (now p room) w ≡ []
unfolding step_out
quiet_out mode p next room w e = ap (λ (s : Step). met_heard s.met (step_to mode (now p room) w).room) e

-- a data word
value_to : (mode : ℕ) (k : Mark) (n m : ℕ) (room : List ℕ) (w : ℕ) → step_of mode (length room) (Data k n m) w ≡ collecting k n m
    → step_to mode (now (Data k n m) room) w ≡ now (Data k n (m + 1)) (set room m (value_of mode w))
unfolding step_to stored pick
value_to mode k n m room w e = ap (λ (s : Step). now s.phase (stored s.keeps m (value_of mode w) room)) e

value_out : (mode : ℕ) (k : Mark) (n m : ℕ) (room : List ℕ) (w : ℕ) → step_of mode (length room) (Data k n m) w ≡ collecting k n m → step_out mode (now (Data k n m) room) w ≡ []
unfolding step_out
value_out mode k n m room w e = ap (λ (s : Step). met_heard s.met (step_to mode (now (Data k n m) room) w).room) e

-- ---- words that idle passes over
idle_to : (mode : ℕ) (ws room : List ℕ) → each passes ws ≡ true → run_to mode (idle room) ws ≡ idle room
idle_to mode [] room h = refl
idle_to mode (w ∷ ws) room h =
    let b = both_true (passes w) (each passes ws) h in
    ap (λ (q : Now). run_to mode q ws) (quiet_to mode Idle Idle room w (idle_step_lem mode (length room) w b.0)) ∙ idle_to mode ws room b.1

idle_out : (mode : ℕ) (ws room : List ℕ) → each passes ws ≡ true → run_out mode (idle room) ws ≡ []
idle_out mode [] room h = refl
idle_out mode (w ∷ ws) room h =
    let b = both_true (passes w) (each passes ws) h in
    let s = idle_step_lem mode (length room) w b.0 in
    ap₂ (λ (hs : List Heard) (q : Now). hs ++ run_out mode q ws) (quiet_out mode Idle Idle room w s) (quiet_to mode Idle Idle room w s)
    ∙ idle_out mode ws room b.1

-- ---- filler
pub filler_out : (mode n : ℕ) (room : List ℕ) → run_out mode (idle room) (replicate n 0x200) ≡ []
filler_out mode n room = idle_out mode (replicate n 0x200) room (each_filler passes n 0x200 refl)

pub filler_to : (mode n : ℕ) (room : List ℕ) → run_to mode (idle room) (replicate n 0x200) ≡ idle room
filler_to mode n room = idle_to mode (replicate n 0x200) room (each_filler passes n 0x200 refl)

-- ---- a block without its first word
abbrev behind : ℕ → ℕ → List ℕ → List ℕ
behind mode kind vs = byte_word kind ∷ count_words (length vs) ++ (map (word_of mode) vs ++ (end_code ∷ []))

byte_passes : (v : ℕ) → passes (byte_word v) ≡ true
byte_passes v = data_passes (byte_word v) (byte_data (byte_word v) (byte_any v))

values_pass : (mode : ℕ) (vs : List ℕ) → valued mode vs ≡ true → each passes (map (word_of mode) vs) ≡ true
unfolding valued
values_pass mode vs e = each_map (word_of mode) passes (λ v. ltb v (values mode)) (λ v h. data_passes (word_of mode v) (value_data mode v h)) vs e

behind_pass : (mode kind : ℕ) (vs : List ℕ) → valued mode vs ≡ true → each passes (behind mode kind vs) ≡ true
unfolding count_words
behind_pass mode kind vs e =
    let n = length vs in
    ap₂ ◌&&◌ (byte_passes kind)
    (ap₂ ◌&&◌ (byte_passes (n % 256))
    (ap₂ ◌&&◌ (byte_passes (n / 256 % 256))
    (ap₂ ◌&&◌ (byte_passes (n / 65536 % 256))
    (ap₂ ◌&&◌ (byte_passes (n / 16777216 % 256))
    (each_append passes (map (word_of mode) vs) (end_code ∷ []) (values_pass mode vs e) refl)))))

part_passes : (mode kind : ℕ) (vs : List ℕ) → valued mode vs ≡ true → (j k : ℕ) → 1 ≤ j → each passes (take k (drop j (block_words mode kind vs))) ≡ true
unfolding block_words
part_passes mode kind vs e zero k h = absurd (omega arith)
part_passes mode kind vs e (suc j) k h = each_take passes k (drop j (behind mode kind vs)) (each_drop passes j (behind mode kind vs) (behind_pass mode kind vs e))

pub behind_out : (mode kind : ℕ) (vs : List ℕ) → Shaped mode kind vs → (room : List ℕ) (j k : ℕ) → 1 ≤ j
    → run_out mode (idle room) (take k (drop j (block_words mode kind vs))) ≡ []
behind_out mode kind vs s room j k h = idle_out mode (take k (drop j (block_words mode kind vs))) room (part_passes mode kind vs s.values_fit j k h)

pub behind_to : (mode kind : ℕ) (vs : List ℕ) → Shaped mode kind vs → (room : List ℕ) (j k : ℕ) → 1 ≤ j
    → run_to mode (idle room) (take k (drop j (block_words mode kind vs))) ≡ idle room
behind_to mode kind vs s room j k h = idle_to mode (take k (drop j (block_words mode kind vs))) room (part_passes mode kind vs s.values_fit j k h)

-- ---- words with which nothing is reported
record Quiet (mode : ℕ) (q : Now) (ws : List ℕ) (end : Now) : Type 0 where
  to : run_to mode q ws ≡ end
  out : (j : ℕ) → run_out mode q (take j ws) ≡ []

-- one such word more, in front
quiet_cons : (mode : ℕ) (q next : Now) (w : ℕ) (ws : List ℕ) (end : Now) → step_to mode q w ≡ next → step_out mode q w ≡ [] → Quiet mode next ws end
    → Quiet mode q (w ∷ ws) end
quiet_cons mode q next w ws end e o rest = record { to = ap (λ (x : Now). run_to mode x ws) e ∙ rest.to; out = at }
  where
    at : (j : ℕ) → run_out mode q (take j (w ∷ ws)) ≡ []
    at zero = refl
    at (suc j) = ap₂ (λ (hs : List Heard) (x : Now). hs ++ run_out mode x (take j ws)) o e ∙ rest.out j

quiet_next : (mode : ℕ) (p next : Phase) (room : List ℕ) (w : ℕ) (ws : List ℕ) (end : Now) → step_of mode (length room) p w ≡ on next
    → Quiet mode (now next room) ws end → Quiet mode (now p room) (w ∷ ws) end
quiet_next mode p next room w ws end e rest =
    quiet_cons mode (now p room) (now next room) w ws end (quiet_to mode p next room w e) (quiet_out mode p next room w e) rest

-- ---- the steps of a block's words
pub separator_step : (mode room : ℕ) → step_of mode room Idle separator ≡ on Kind
unfolding step_of class_of is_byte is_data pick
separator_step mode room = refl

pub byte_step : (mode room : ℕ) (p : Phase) (v : ℕ) → v < 256 → step_of mode room p (byte_word v) ≡ step_by mode room p Byte v
unfolding step_of
byte_step mode room p v h = ap₂ (step_by mode room p) (class_byte (byte_word v) (byte_any v)) (byte_low v h)

pub count_value : (n : ℕ) → n ≤ most → n % 256 + n / 256 % 256 * 256 + n / 65536 % 256 * 65536 + n / 16777216 % 256 * 16777216 ≡ n
count_value n h = omega arith

pub counted_fits : (room : ℕ) (k : Mark) (n : ℕ) → n ≤ room → counted room k n ≡ on (Data k n 0)
unfolding counted
counted_fits room k n h = pick_false (dropped 3) (on (Data k n 0)) (le-ltb room n h)

last_count_step : (mode room : ℕ) (k : Mark) (n : ℕ) → n ≤ most → n ≤ room
    → step_of mode room (Fourth k (n % 256) (n / 256 % 256) (n / 65536 % 256)) (byte_word (n / 16777216 % 256)) ≡ on (Data k n 0)
last_count_step mode room k n m h = byte_step mode room _ _ (omega arith) ∙ ap (counted room k) (count_value n m) ∙ counted_fits room k n h

value_fits : (room : ℕ) (k : Mark) (n m : ℕ) → m < n → m < room → value_step false room k n m ≡ collecting k n m
unfolding value_step
value_fits room k n m a b = value_kept room k n m (and_none (not (eqb n 0)) (leb n m) (lt-leb n m a)) b

-- what is laid as a value is no code, and in 8-bit mode not 100h
data_step_lem : (mode room : ℕ) (k : Mark) (n m v : ℕ) → ltb v (values mode) ≡ true → m < n → m < room → step_of mode room (Data k n m) (word_of mode v) ≡ collecting k n m
unfolding step_of
data_step_lem mode room k n m v e a b =
    data_class mode room k n m (class_of (word_of mode v)) (false_or (data_no_code (word_of mode v) (value_data mode v e)) (value_some mode v))
    ∙ value_fits room k n m a b

end_step_lem : (mode room k n : ℕ) → step_of mode room (Data (Typed k) n n) end_code ≡ record { phase = Idle; met = Whole k n; keeps = false }
unfolding step_of class_of is_byte is_data pick end_step
end_step_lem mode room k n = pick_true _ _ (or_right (eqb n 0) (eqb n n) (eq-eqb n n refl))

-- ---- all but the last word of a block
module _ (mode kind n : ℕ) where
  quiet_values : (vs : List ℕ) (m : ℕ) (room : List ℕ) → m + length vs ≡ n → n ≤ length room → valued mode vs ≡ true
      → Quiet mode (now (Data (Typed kind) n m) room) (map (word_of mode) vs) (now (Data (Typed kind) n n) (sets room m vs))
  unfolding valued
  quiet_values [] m room e h a =
      let at : m ≡ n = omega arith in
      record { to = ap (λ (k : ℕ). now (Data (Typed kind) n k) room) at; out = none }
    where
      none : (j : ℕ) → run_out mode (now (Data (Typed kind) n m) room) (take j []) ≡ []
      none zero = refl
      none (suc j) = refl
  quiet_values (v ∷ vs) m room e h a =
      let b = both_true (ltb v (values mode)) (each (λ v. ltb v (values mode)) vs) a in
      let w = word_of mode v in
      let s : step_of mode (length room) (Data (Typed kind) n m) w ≡ collecting (Typed kind) n m = data_step_lem mode (length room) (Typed kind) n m v b.0 (omega arith) (omega arith) in
      let set_it : now (Data (Typed kind) n (m + 1)) (set room m (value_of mode w)) ≡ now (Data (Typed kind) n (suc m)) (set room m v) =
      ap₂ (λ (k x : ℕ). now (Data (Typed kind) n k) (set room m x)) (add-one m) (value_back mode v (ltb-true v (values mode) b.0)) in
      quiet_cons mode (now (Data (Typed kind) n m) room) (now (Data (Typed kind) n (suc m)) (set room m v)) w (map (word_of mode) vs) _
      (value_to mode (Typed kind) n m room w s ∙ set_it)
      (value_out mode (Typed kind) n m room w s)
      (quiet_values vs (suc m) (set room m v) (omega arith) (rw (length-set room m v) h) b.1)

abbrev front : ℕ → ℕ → List ℕ → List ℕ
front mode kind vs = separator ∷ byte_word kind ∷ count_words (length vs) ++ map (word_of mode) vs

quiet_front : (mode kind : ℕ) (vs : List ℕ) → Shaped mode kind vs → (room : List ℕ) → length vs ≤ length room
    → Quiet mode (idle room) (front mode kind vs) (now (Data (Typed kind) (length vs) (length vs)) (sets room 0 vs))
unfolding count_words
quiet_front mode kind vs s room h =
    let n = length vs in
    let r = length room in
    let k = Typed kind in
    quiet_next mode Idle Kind room _ _ _ (separator_step mode r)
    (quiet_next mode Kind (First k) room _ _ _ (byte_step mode r Kind kind (omega (arith, s.small)))
    (quiet_next mode (First k) (Second k (n % 256)) room _ _ _ (byte_step mode r (First k) (n % 256) (omega arith))
    (quiet_next mode (Second k (n % 256)) (Third k (n % 256) (n / 256 % 256)) room _ _ _ (byte_step mode r (Second k (n % 256)) (n / 256 % 256) (omega arith))
    (quiet_next mode (Third k (n % 256) (n / 256 % 256)) (Fourth k (n % 256) (n / 256 % 256) (n / 65536 % 256)) room _ _ _
    (byte_step mode r (Third k (n % 256) (n / 256 % 256)) (n / 65536 % 256) (omega arith))
    (quiet_next mode (Fourth k (n % 256) (n / 256 % 256) (n / 65536 % 256)) (Data k n 0) room _ _ _ (last_count_step mode r k n s.at_most h)
    (quiet_values mode kind n vs 0 room (zero-add n) h s.values_fit))))))

-- ---- a whole block
front_long : (mode kind : ℕ) (vs : List ℕ) → length (front mode kind vs) ≡ length vs + 6
unfolding count_words
front_long mode kind vs = let e = length-map vs (word_of mode) in omega (arith, e)

block_is : (mode kind : ℕ) (vs : List ℕ) → block_words mode kind vs ≡ front mode kind vs ++ (end_code ∷ [])
unfolding block_words count_words
block_is mode kind vs = refl

end_to : (mode k n : ℕ) (room : List ℕ) → step_to mode (now (Data (Typed k) n n) room) end_code ≡ idle room
unfolding step_to stored pick
end_to mode k n room =
    ap (λ (s : Step). now s.phase (stored s.keeps n (value_of mode end_code) room)) (end_step_lem mode (length room) k n)

end_out : (mode k n : ℕ) (room : List ℕ) → step_out mode (now (Data (Typed k) n n) room) end_code ≡ is_block (record { kind = k; values = take n room }) ∷ []
unfolding step_out
end_out mode k n room = ap₂ (λ (s : Step) (q : Now). met_heard s.met q.room) (end_step_lem mode (length room) k n) (end_to mode k n room)

values_back : (vs room : List ℕ) → length vs ≤ length room → take (length vs) (sets room 0 vs) ≡ vs
values_back vs room h =
    let fits : 0 + length vs ≤ length room = omega arith in
    ap (take (length vs)) (sets-eq vs room 0 fits) ∙ take-append_seam vs (drop (0 + length vs) room)

module _ (mode kind : ℕ) (vs : List ℕ) (s : Shaped mode kind vs) (room : List ℕ) (h : length vs ≤ length room) where
  pub whole_out : run_out mode (idle room) (block_words mode kind vs) ≡ is_block (record { kind = kind; values = vs }) ∷ []
  whole_out =
      let ws = front mode kind vs in
      let n = length vs in
      let q = quiet_front mode kind vs s room h in
      ap (run_out mode (idle room)) (block_is mode kind vs)
      ∙ run_out_append mode (idle room) ws (end_code ∷ [])
      ∙ ap₂ (λ (hs : List Heard) (x : Now). hs ++ (step_out mode x end_code ++ []))
      (ap (run_out mode (idle room)) (sym (take-length ws)) ∙ q.out (length ws)) q.to
      ∙ ap (λ (hs : List Heard). hs ++ []) (end_out mode kind n (sets room 0 vs))
      ∙ ap {B = List Heard} (λ (xs : List ℕ). is_block (record { kind = kind; values = xs }) ∷ []) (values_back vs room h)

  pub whole_to : (run_to mode (idle room) (block_words mode kind vs)).phase ≡ Idle
  whole_to =
      let q = quiet_front mode kind vs s room h in
      ap (λ (x : Now). x.phase)
      (ap (run_to mode (idle room)) (block_is mode kind vs)
      ∙ run_to_append mode (idle room) (front mode kind vs) (end_code ∷ [])
      ∙ ap (λ (x : Now). step_to mode x end_code) q.to
      ∙ end_to mode kind (length vs) (sets room 0 vs))

  pub front_out : (j : ℕ) → j ≤ length vs + 6 → run_out mode (idle room) (take j (block_words mode kind vs)) ≡ []
  front_out j le =
      ap (run_out mode (idle room))
      (ap (take j) (block_is mode kind vs) ∙ take-append-le j (front mode kind vs) (end_code ∷ []) (omega (arith, front_long mode kind vs)))
      ∙ (quiet_front mode kind vs s room h).out j
