-- The 53 words that the code lays, one part after another, are the header words.
-- Assumes nothing.
use mathlib.Core.Path.{◌≡◌, refl, sym, ap, ◌∙◌}
use mathlib.Core.List.{List, [], ◌∷◌, ◌++◌, map, map-append, append_assoc}
use Prim.Native.Nat.{ℕ, ◌+◌, ◌*◌, ◌/◌, ◌%◌, ◌≤◌}
use native.Mathlib.Omega.{arith}
use lib.Dec.{lit≤}
use lib.ListN.{length, take, length-append, length-map}
use lib.Seq.{take_all}
use Rattle.words.specs.Forms.{byte_word}
use Rattle.words.specs.Checksum.{checksum}
use Rattle.words.specs.Crc.{crc_words}
use Rattle.line.specs.declared.settings.Settings.{Settings}
use Rattle.line.specs.Header.{flag_words, id_words, number_words, settings_bytes, settings_words, summed_words, header_words}
use Rattle.line.specs.Cuts.{Laid}
use Rattle.line.specs.Settings.{Held}
use Rattle.lists.specs.Lists.{part}
use Rattle.lists.proofs.Lists.{inside}

-- what stands in front grows by what is laid
grow : (a k : ℕ) {ws before after : List ℕ} (p : List ℕ) → Laid a ws before after → length ws ≡ k → take a before ≡ p → take (a + k) after ≡ p ++ ws
grow a k {ws} {before} {after} p l e t = ap (λ (n : ℕ). take (a + n) after) (sym e) ∙ l.front ∙ ap (λ (x : List ℕ). x ++ ws) t

-- a part of what stands in front
seen : (a k n : ℕ) (o p : List ℕ) → a + k ≤ n → take n o ≡ p → part a k o ≡ part a k p
seen a k n o p h t = sym (inside a k n o h) ∙ ap (part a k) t

module _ (n : ℕ) (s : Settings) (z : Held s) where
  bytes : (bs : List ℕ) (k : ℕ) → length bs ≡ k → length (map byte_word bs) ≡ k
  bytes bs k e = length-map bs byte_word ∙ e

  first : ℕ
  first = s.code % 16 + s.aai % 16 * 16

  -- the settings' words, as they are laid
  laid_settings : (h : List ℕ)
      → ((((h ++ map byte_word (first ∷ [])) ++ map byte_word s.destination) ++ map byte_word s.source) ++ map byte_word (s.block ∷ s.flag ∷ [])) ++ map byte_word s.reserved
      ≡ h ++ settings_words s
  unfolding settings_words settings_bytes first
  laid_settings h =
      simp (append_assoc, map-append)

  forty_words : length (settings_words s) ≡ 40
  unfolding settings_words settings_bytes
  forty_words =
      length-map (settings_bytes s) byte_word
      ∙ (let a = length-append s.destination (s.source ++ (s.block ∷ s.flag ∷ s.reserved)) in
      let b = length-append s.source (s.block ∷ s.flag ∷ s.reserved) in
      omega (arith, z.to, z.from, z.five))

  summed_length : length (summed_words n s) ≡ 49
  unfolding summed_words number_words crc_words
  summed_length =
      let rest : length (settings_words s ++ crc_words (settings_words s)) ≡ 42 =
      length-append (settings_words s) (crc_words (settings_words s)) ∙ ap (λ (x : ℕ). x + 2) forty_words in
      omega arith

  pub written : (o o1 o2 o3 o4 o5 o6 o7 o8 o9 r : List ℕ) → length o ≡ 53
      → Laid 0 (flag_words ++ id_words) o o1 → Laid 6 (map byte_word (n % 256 ∷ n / 256 % 4 ∷ [])) o1 o2 → Laid 8 (crc_words (part 3 5 o2)) o2 o3
      → Laid 10 (map byte_word ((s.code % 16 + s.aai % 16 * 16) ∷ [])) o3 o4 → Laid 11 (map byte_word s.destination) o4 o5 → Laid 27 (map byte_word s.source) o5 o6
      → Laid 43 (map byte_word (s.block ∷ s.flag ∷ [])) o6 o7 → Laid 45 (map byte_word s.reserved) o7 o8
      → Laid 50 (crc_words (part 10 40 o8)) o8 o9 → Laid 52 (checksum (part 3 49 o9) ∷ []) o9 r → r ≡ header_words n s
  unfolding header_words summed_words number_words crc_words first
  written o o1 o2 o3 o4 o5 o6 o7 o8 o9 r len l1 l2 l3 l4 l5 l6 l7 l8 l9 l10 =
      let ids : List ℕ = id_words ++ number_words n in
      let t1 : take 6 o1 ≡ flag_words ++ id_words = grow 0 6 [] l1 refl refl in
      let t2 : take 8 o2 ≡ flag_words ++ ids = grow 6 2 (flag_words ++ id_words) l2 refl t1 in
      let p2 : part 3 5 o2 ≡ ids = seen 3 5 8 o2 (flag_words ++ ids) (lit≤ tt) t2 in
      let h : List ℕ = flag_words ++ (ids ++ crc_words ids) in
      let t3 : take 10 o3 ≡ h = grow 8 2 (flag_words ++ ids) l3 refl t2 ∙ ap (λ (x : List ℕ). flag_words ++ (ids ++ crc_words x)) p2 in
      let t8 : take 50 o8 ≡ h ++ settings_words s =
      grow 45 5 _ l8 (bytes s.reserved 5 z.five)
      (grow 43 2 _ l7 refl (grow 27 16 _ l6 (bytes s.source 16 z.from) (grow 11 16 _ l5 (bytes s.destination 16 z.to) (grow 10 1 h l4 refl t3))))
      ∙ laid_settings h in
      let p8 : part 10 40 o8 ≡ settings_words s = seen 10 40 50 o8 (h ++ settings_words s) (lit≤ tt) t8 ∙ take_all 40 (settings_words s) (omega (arith, forty_words)) in
      let t9 : take 52 o9 ≡ flag_words ++ summed_words n s =
      grow 50 2 (h ++ settings_words s) l9 refl t8
      ∙ ap (λ (x : List ℕ). (h ++ settings_words s) ++ crc_words x) p8
      ∙ append_assoc h (settings_words s) (crc_words (settings_words s)) in
      let p9 : part 3 49 o9 ≡ summed_words n s =
      seen 3 49 52 o9 (flag_words ++ summed_words n s) (lit≤ tt) t9 ∙ take_all 49 (summed_words n s) (omega (arith, summed_length)) in
      let all : length r ≡ 53 = l10.kept ∙ l9.kept ∙ l8.kept ∙ l7.kept ∙ l6.kept ∙ l5.kept ∙ l4.kept ∙ l3.kept ∙ l2.kept ∙ l1.kept ∙ len in
      sym (take_all 53 r (omega arith))
      ∙ grow 52 1 (flag_words ++ summed_words n s) l10 refl t9
      ∙ ap (λ (x : List ℕ). flag_words ++ (summed_words n s ++ (checksum x ∷ []))) p9
