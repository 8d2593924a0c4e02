-- A packet laid is found again, and a packet found, written again, is word for word what stood there.
-- Assumes nothing.
use mathlib.Core.Path.{◌≡◌, refl, sym, ap, ap₂, ◌∙◌}
use mathlib.Core.Bool.{Bool, true, ◌&&◌}
use mathlib.Core.List.{List, [], ◌∷◌, ◌++◌, map, append_assoc}
use Prim.Native.Nat.{ℕ, ◌+◌, ◌%◌, ◌<◌, ◌≤◌}
use native.Mathlib.Nat.{mod-lt}
use native.Mathlib.Omega.{arith}
use lib.Dec.{ltb, lit<}
use lib.ListN.{length, get_or, take, drop, length-map, length-append}
use lib.Seq.{take_at, drop_at, drop-drop, drop-cons, get_or-drop, get_or-append-add}
use borrow.Author.Tests.{ltb-true}
use Rattle.lists.specs.Lists.{part, each}
use Rattle.lists.proofs.Tests.{both_true}
use Rattle.lists.proofs.Lists.{part_add, length_part, same_eq, each_append, each_map, map_back}
use Rattle.words.specs.Forms.{byte_word, data_word, is_byte, is_data}
use Rattle.words.specs.Checksum.{sum_of, checksum}
use Rattle.words.proofs.FormLaws.{byte_low, data_low, byte_in, data_in, byte_back, data_back}
use Rattle.line.specs.Header.{flag_words}
use Rattle.line.specs.Check.{low}
use Rattle.packets.specs.Packet.{body_words, packet_words, Packet, words_of}
use Rattle.packets.specs.Gap.{flag_at, count_at, fault_at, value, packet_at}
use Rattle.packets.proofs.PacketLaws.{Good, no_fault}

pub each_split : (f : ℕ → Bool) (xs ys : List ℕ) → each f (xs ++ ys) ≡ true → (each f xs ≡ true) × (each f ys ≡ true)
each_split f [] ys e = (refl, e)
each_split f (x ∷ xs) ys e =
    let b = both_true (f x) (each f (xs ++ ys)) e in
    let c = each_split f xs ys b.1 in
    (ap₂ ◌&&◌ b.0 c.0, c.1)

pub body_long : (d s : ℕ) (vs : List ℕ) → length (body_words d s vs) ≡ length vs + 3
unfolding body_words
body_long d s vs = let m = length-map vs data_word in omega arith

pub packet_long : (d s : ℕ) (vs : List ℕ) → length (packet_words d s vs) ≡ length vs + 7
unfolding packet_words body_words
packet_long d s vs = let e = length-append (map data_word vs) (checksum (body_words d s vs) ∷ []) in let m = length-map vs data_word in omega arith

-- ---- found, and written again
module _ (g : List ℕ) (k : Good g) where
  three : part 3 3 g ≡ get_or g 3 0 ∷ get_or g 4 0 ∷ get_or g 5 0 ∷ []
  three =
      let h = k.long in
      ap (take 3)
      (drop-cons g 3 0 (omega arith)
      ∙ ap (λ (x : List ℕ). get_or g 3 0 ∷ x) (drop-cons g 4 0 (omega arith) ∙ ap (λ (x : List ℕ). get_or g 4 0 ∷ x) (drop-cons g 5 0 (omega arith))))

  users : map data_word (map value (part 6 (count_at g) g)) ≡ part 6 (count_at g) g
  users =
      map_back data_word value is_data data_back (part 6 (count_at g) g)
      (each_split is_data (part 6 (count_at g) g) _ (sym (ap (each is_data) (part_add 6 (count_at g) 1 g)) ∙ k.datas)).0

  pub counted : length (map value (part 6 (count_at g) g)) ≡ count_at g
  counted = let h = k.long in length-map (part 6 (count_at g) g) value ∙ length_part 6 (count_at g) g (omega arith)

  body_back : body_words (packet_at g).did (packet_at g).second (packet_at g).values ≡ part 3 (count_at g + 3) g
  unfolding body_words
  body_back =
      let bytes = ap (map byte_word) (ap (map low) three) in
      let back = map_back byte_word low is_byte byte_back (part 3 3 g) k.bytes in
      let split : part 3 (3 + count_at g) g ≡ part 3 3 g ++ part 6 (count_at g) g = part_add 3 3 (count_at g) g in
      let n : count_at g + 3 ≡ 3 + count_at g = omega arith in
      ap₂ (λ (c : ℕ) (ws : List ℕ). byte_word (low (get_or g 3 0)) ∷ byte_word (low (get_or g 4 0)) ∷ byte_word c ∷ ws) counted users
      ∙ ap (λ (x : List ℕ). x ++ part 6 (count_at g) g) (sym bytes ∙ back)
      ∙ sym split
      ∙ ap (λ (x : ℕ). part 3 x g) (sym n)

  last_word : part (count_at g + 6) 1 g ≡ get_or g (count_at g + 6) 0 ∷ []
  last_word = let h = k.long in ap (take 1) (drop-cons g (count_at g + 6) 0 (omega arith))

  -- `packet_back`: the packet at the front, written again, is the words that stand there
  pub packet_back : flag_at g ≡ true → words_of (packet_at g) ≡ take (count_at g + 7) g
  unfolding packet_words
  packet_back f =
      let n : count_at g + 7 ≡ 3 + (count_at g + 3 + 1) = omega arith in
      let i : 3 + (count_at g + 3) ≡ count_at g + 6 = omega arith in
      ap₂ (λ (x y : List ℕ). x ++ (y ++ (checksum y ∷ []))) (sym (same_eq (take 3 g) flag_words f)) body_back
      ∙ ap (λ (s : ℕ). take 3 g ++ (part 3 (count_at g + 3) g ++ (s ∷ []))) (sym k.sum)
      ∙ ap (λ (x : List ℕ). take 3 g ++ (part 3 (count_at g + 3) g ++ x)) (sym last_word ∙ ap (λ (j : ℕ). part j 1 g) (sym i))
      ∙ ap (λ (x : List ℕ). take 3 g ++ x) (sym (part_add 3 (count_at g + 3) 1 g))
      ∙ sym (part_add 0 3 (count_at g + 3 + 1) g)
      ∙ ap (λ (x : ℕ). take x g) (sym n)

-- ---- laid, and found
-- what a packet can be: bytes, at most 255 user words, of nine bits each
pub record Sound (p : Packet) : Type 0 where
  pub did : p.did < 256
  pub second : p.second < 256
  pub few : length p.values ≤ 255
  pub nine : each (λ v. ltb v 512) p.values ≡ true

module _ (p : Packet) (k : Sound p) (r : List ℕ) where
  n : ℕ
  n = length p.values

  sum : ℕ
  sum = checksum (body_words p.did p.second p.values)

  abbrev g : List ℕ
  g = words_of p ++ r

  users_of : List ℕ
  users_of = map data_word p.values

  behind : drop 6 g ≡ users_of ++ (sum ∷ r)
  unfolding packet_words body_words users_of sum
  behind = append_assoc (map data_word p.values) (checksum (body_words p.did p.second p.values) ∷ []) r

  users_long : length users_of ≡ n
  unfolding users_of n
  users_long = length-map p.values data_word

  pub count_there : count_at g ≡ length p.values
  unfolding packet_words body_words
  count_there = let h = k.few in byte_low (length p.values) (omega arith)

  pub flag_there : flag_at g ≡ true
  unfolding packet_words
  flag_there = refl

  users_there : part 6 n g ≡ users_of
  users_there = ap (take n) behind ∙ take_at users_of (sum ∷ r) n users_long

  sum_data : is_data sum ≡ true
  unfolding sum checksum
  sum_data = data_in (sum_of (body_words p.did p.second p.values) % 512) (mod-lt (sum_of (body_words p.did p.second p.values)) (lit< tt))

  datas_there : part 6 (n + 1) g ≡ users_of ++ (sum ∷ [])
  datas_there = part_add 6 n 1 g ∙ ap₂ ◌++◌ users_there last
    where
      last : part (6 + n) 1 g ≡ sum ∷ []
      last = ap (take 1) (sym (drop-drop n 6 g) ∙ ap (drop n) behind ∙ drop_at users_of (sum ∷ r) n users_long)

  sum_there : get_or g (n + 6) 0 ≡ sum
  sum_there =
      let e : n + 6 ≡ 6 + (n + 0) = omega arith in
      ap (λ (i : ℕ). get_or g i 0) e
      ∙ sym (get_or-drop 6 g (n + 0) 0)
      ∙ ap (λ (l : List ℕ). get_or l (n + 0) 0) behind
      ∙ ap (λ (i : ℕ). get_or (users_of ++ (sum ∷ r)) (i + 0) 0) (sym users_long)
      ∙ get_or-append-add users_of (sum ∷ r) 0 0

  body_front : part 3 3 g ++ users_of ≡ body_words p.did p.second p.values
  unfolding packet_words body_words users_of
  body_front = refl

  body_there : part 3 (n + 3) g ≡ body_words p.did p.second p.values
  body_there =
      let e : n + 3 ≡ 3 + n = omega arith in
      ap (λ (x : ℕ). part 3 x g) e ∙ part_add 3 3 n g ∙ ap (λ (x : List ℕ). part 3 3 g ++ x) users_there ∙ body_front

  bytes_there : each is_byte (part 3 3 g) ≡ true
  unfolding packet_words body_words
  bytes_there =
      let h = k.few in
      ap₂ ◌&&◌ (byte_in p.did k.did) (ap₂ ◌&&◌ (byte_in p.second k.second) (ap₂ ◌&&◌ (byte_in (length p.values) (omega arith)) refl))

  good_there : Good g
  unfolding n sum users_of
  good_there = record {
    long =
        let l = length-append (words_of p) r in
        let m = packet_long p.did p.second p.values in
        rw count_there (omega arith);
    bytes = bytes_there;
    datas =
        rw count_there (ap (each is_data) datas_there
        ∙ each_append is_data users_of (sum ∷ []) (each_map data_word is_data (λ v. ltb v 512) (λ v e. data_in v (ltb-true v 512 e)) p.values k.nine) (ap₂ ◌&&◌ sum_data refl));
    sum = rw count_there (sum_there ∙ ap checksum (sym body_there));
  }

  -- `packet_there`: the packet that was laid is the one at the front, whatever stands behind it
  pub fault_there : fault_at g ≡ 0
  fault_there = no_fault g good_there

  did_there : low (get_or g 3 0) ≡ p.did
  unfolding packet_words body_words
  did_there = byte_low p.did k.did

  second_there : low (get_or g 4 0) ≡ p.second
  unfolding packet_words body_words
  second_there = byte_low p.second k.second

  values_there : map value (part 6 (count_at g) g) ≡ p.values
  unfolding n users_of
  values_there =
      ap (λ (c : ℕ). map value (part 6 c g)) count_there
      ∙ ap (map value) users_there
      ∙ map_back value data_word (λ v. ltb v 512) (λ v e. data_low v (ltb-true v 512 e)) p.values k.nine

  pub packet_there : packet_at g ≡ p
  packet_there =
      ap₂ (λ (x y : ℕ). record { did = x; second = y; values = map value (part 6 (count_at g) g) }) did_there second_there
      ∙ ap (λ (vs : List ℕ). record { did = p.did; second = p.second; values = vs }) values_there

  pub rest_there : drop (count_at g + 7) g ≡ r
  rest_there = ap (λ (c : ℕ). drop (c + 7) g) count_there ∙ drop_at (words_of p) r (length p.values + 7) (packet_long p.did p.second p.values)
