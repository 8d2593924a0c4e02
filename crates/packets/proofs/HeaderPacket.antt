-- 01's 53 header words are such a packet: DID 40h, SDID 01h, and the 46 words behind them as user words.
-- Assumes nothing.
use mathlib.Core.Path.{◌≡◌, refl, sym, ap, ap₂, ◌∙◌}
use mathlib.Core.Bool.{true, ◌&&◌}
use mathlib.Core.List.{List, [], ◌∷◌, ◌++◌, map}
use Prim.Native.Nat.{ℕ, ◌/◌, ◌%◌}
use native.Mathlib.Nat.{mod-lt}
use native.Mathlib.Omega.{arith}
use lib.Dec.{lit<}
use lib.ListN.{length, drop, length-append, length-map}
use Rattle.lists.specs.Lists.{each}
use Rattle.lists.proofs.Lists.{each_append, map_back}
use Rattle.words.specs.Forms.{byte_word, data_word, is_byte, is_data, parity, xor_of}
use Rattle.words.specs.Checksum.{checksum}
use Rattle.words.specs.Crc.{crc_words}
use Rattle.words.proofs.FormLaws.{byte_in, byte_of_low, byte_data, data_back}
use Rattle.line.specs.declared.settings.Settings.{Settings}
use Rattle.line.specs.Settings.{Held}
use Rattle.line.specs.Header.{flag_words, id_words, number_words, settings_bytes, settings_words, summed_words, header_words}
use Rattle.line.proofs.Headers.{crc_formed, header_length_lem}
use Rattle.packets.specs.Packet.{body_words, packet_words}
use Rattle.packets.specs.Gap.{value}

-- every number has a byte form, which is a data form
bytes_data : (bs : List ℕ) → each is_data (map byte_word bs) ≡ true
bytes_data [] = refl
bytes_data (b ∷ bs) =
    let byte = ap is_byte (sym (byte_of_low b)) ∙ byte_in (b % 256) (mod-lt b (lit< tt)) in
    ap₂ ◌&&◌ (byte_data (byte_word b) byte) (bytes_data bs)

-- the words behind the first three that the checksum covers
abbrev pub user_words : ℕ → Settings → List ℕ
user_words n s = drop 3 (summed_words n s)

module _ (n : ℕ) (s : Settings) where
  users_data : each is_data (user_words n s) ≡ true
  unfolding summed_words number_words settings_words
  users_data =
      let five : List ℕ = id_words ++ number_words n in
      let settings : List ℕ = settings_words s ++ crc_words (settings_words s) in
      each_append is_data (number_words n) (crc_words five ++ settings) (bytes_data (n % 256 ∷ n / 256 % 4 ∷ []))
      (each_append is_data (crc_words five) settings (crc_formed five)
      (each_append is_data (settings_words s) (crc_words (settings_words s)) (bytes_data (settings_bytes s)) (crc_formed (settings_words s))))

  users_long : Held s → length (user_words n s) ≡ 46
  unfolding header_words summed_words
  users_long h =
      let l = header_length_lem s h n in
      let e = length-append (summed_words n s) (checksum (summed_words n s) ∷ []) in
      omega arith

  ids : body_words 0x40 0x01 (map value (user_words n s)) ≡ byte_word 0x40 ∷ byte_word 0x01 ∷ byte_word (length (map value (user_words n s))) ∷ user_words n s
  unfolding body_words
  ids = ap (λ (ws : List ℕ). byte_word 0x40 ∷ byte_word 0x01 ∷ byte_word (length (map value (user_words n s))) ∷ ws) (map_back data_word value is_data data_back (user_words n s) users_data)

  first_three : 0x140 ∷ 0x101 ∷ 0x22e ∷ user_words n s ≡ summed_words n s
  unfolding summed_words
  first_three = refl

  three : byte_word 0x40 ∷ byte_word 0x01 ∷ byte_word 46 ∷ user_words n s ≡ 0x140 ∷ 0x101 ∷ 0x22e ∷ user_words n s
  unfolding byte_word data_word parity xor_of
  three = refl

  -- `header_is_packet`
  pub header_is_packet : Held s → header_words n s ≡ packet_words 0x40 0x01 (map value (user_words n s))
  unfolding header_words packet_words
  header_is_packet h =
      let count = length-map (user_words n s) value ∙ users_long h in
      let body = ids ∙ ap (λ (k : ℕ). byte_word 0x40 ∷ byte_word 0x01 ∷ byte_word k ∷ user_words n s) count ∙ three ∙ first_three in
      ap (λ (b : List ℕ). flag_words ++ (b ++ (checksum b ∷ []))) (sym body)
