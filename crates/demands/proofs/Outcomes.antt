-- What an accepted call on the writer says of the desk.
-- Assumes nothing.
use Rattle.std.specs.Prelude.{Some, None}
use Prim.Native.Nat.{ℕ, ◌+◌, ◌≤◌}
use mathlib.Core.Bool.{Bool, true, false}
use mathlib.Core.List.{List, [], ◌∷◌, ◌++◌}
use mathlib.Core.Path.{◌≡◌}
use lib.ListN.{length, take, drop}
use Rattle.line.specs.declared.settings.Settings.{Settings}
use Rattle.line.specs.Systems.{system_of}
use Rattle.line.specs.Settings.{same_settings}
use Rattle.line.specs.Fixed.{is_variable, size_of, places_of}
use Rattle.line.specs.Layout.{area_length, line_words}
use Rattle.line.proofs.Lines.{Accepted}
use Rattle.course.specs.Course.{is_at}
use Rattle.writer.specs.declared.state.Laid.TheVariants.{Finished, Unfinished}
use Rattle.writer.specs.State.{most, is_part, laid_of}
use Rattle.writer.specs.Opening.{is_next, opening}
use Rattle.writer.specs.Adding.{valued, adding}
use Rattle.writer.specs.Block.{block_words, fixed_words, words_in}
use Rattle.writer.specs.Closing.{closing}
use Rattle.line.specs.Settings.{Held}
use Rattle.line.proofs.GapLaws.{GapHolds}
use Rattle.packets.specs.Packet.{packed}
use Rattle.packets.proofs.ListLaws.{AllSound}
use Rattle.writer.specs.Filling.{piece_of, joined, area_from}
use Rattle.demands.specs.Sending.{Desk, values_now, piece_now, joined_pieces}

-- opened: the state, and that an unfinished block goes on with the next number and the same settings
pub record Opens (system : ℕ) (d : Desk) (f v : Bool) (n : ℕ) (t : Settings) (lent : List ℕ) : Type 0 where
  pub was_shut : d.writer.place ≡ None
  pub place : (opening d.writer f v n t lent).state.place ≡ Some 0
  pub rest : (opening d.writer f v n t lent).state.rest ≡ d.writer.rest
  pub last : (opening d.writer f v n t lent).state.last ≡ Some n
  pub settings : (opening d.writer f v n t lent).state.settings ≡ t
  pub goes_on : is_part d.writer.rest ≡ true → (same_settings t d.writer.settings ≡ true) × (is_next (system_of system).lines d.writer.last n ≡ true)

-- laid in a variable line: k more words of the block of the values as laid, of which j were laid before
pub record Varies (mode : ℕ) (d : Desk) (kind : ℕ) (vs : List ℕ) : Type 0 where
  pub small : kind ≤ 255
  pub at_most : length (values_now d vs) ≤ most
  pub length_is : length (values_now d vs) ≡ length vs
  pub values_fit : valued mode (values_now d vs) ≡ true
  pub k : ℕ
  pub some : 1 ≤ k
  pub before : joined_pieces d.pieces ≡ take (laid_of d.writer.rest) (block_words mode kind (values_now d vs))
  pub piece : piece_of d.writer d.now.words kind vs ≡ take k (drop (laid_of d.writer.rest) (block_words mode kind (values_now d vs)))
  pub ends : (adding d.writer d.now.words kind vs).answer ≡ Finished → laid_of d.writer.rest + k ≡ length (values_now d vs) + 7
  pub goes_on : (adding d.writer d.now.words kind vs).answer ≡ Unfinished → laid_of d.writer.rest + k ≤ length (values_now d vs) + 6

-- laid in a fixed line: a whole place
pub record Fills (mode : ℕ) (d : Desk) (kind : ℕ) (vs : List ℕ) : Type 0 where
  pub finished : (adding d.writer d.now.words kind vs).answer ≡ Finished
  pub small : kind ≤ 255
  pub some : 1 ≤ kind
  pub values_fit : valued mode vs ≡ true
  pub values_are : values_now d vs ≡ vs
  pub long : length vs + 1 ≡ size_of d.now.settings.block
  pub none_before : d.pieces ≡ []
  pub piece : piece_of d.writer d.now.words kind vs ≡ fixed_words mode kind vs

-- laid: on an open line, by the kind of the line
pub record Adds (mode : ℕ) (d : Desk) (kind : ℕ) (vs : List ℕ) : Type 0 where
  pub begun : is_at d.writer.place ≡ true
  pub number : length vs ≤ most
  pub some : 1 ≤ length (piece_of d.writer d.now.words kind vs)
  pub varies : is_variable d.now.settings.block ≡ true → Varies mode d kind vs
  pub fills : is_variable d.now.settings.block ≡ false → Fills mode d kind vs
  -- finished: the pieces of the block, joined, are its words
  pub whole : (adding d.writer d.now.words kind vs).answer ≡ Finished
      → joined_pieces (d.pieces ++ (piece_now d kind vs ∷ [])) ≡ words_in d.now.settings.block mode kind (values_now d vs)

-- closed: the line of the definition, which the line check accepts
pub record Closes (system mode : ℕ) (d : Desk) : Type 0 where
  pub is : (closing d.writer d.now.words).line
      ≡ line_words (system_of system) d.now.f d.now.v d.now.number d.now.settings (packed d.now.packets) (area_from (system_of system).payload d.now.settings.flag d.now.pieces)
  pub accepts : Accepted system mode d.now.number d.now.settings (area_from (system_of system).payload d.now.settings.flag d.now.pieces) (closing d.writer d.now.words).line
  pub held : Held d.now.settings
  pub holds : GapHolds (system_of system) (packed d.now.packets)
  pub sound : AllSound d.now.packets
  pub last_is : d.writer.last ≡ Some d.now.number
  pub settings_are : d.writer.settings ≡ d.now.settings
  pub state_last : (closing d.writer d.now.words).state.last ≡ d.writer.last
  pub state_settings : (closing d.writer d.now.words).state.settings ≡ d.writer.settings
  pub state_place : (closing d.writer d.now.words).state.place ≡ None
  pub state_rest : (closing d.writer d.now.words).state.rest ≡ d.writer.rest
  -- an unfinished block fills the area
  pub full : is_part d.writer.rest ≡ true → length (joined d.now.pieces) ≡ area_length (system_of system).payload d.now.settings.flag
  -- in a fixed line there are at most as many blocks as places
  pub within : is_variable d.now.settings.block ≡ false → length d.now.pieces ≤ places_of (system_of system).payload d.now.settings.block
  -- the place is not the line's start where a block is unfinished
  pub begun : is_part d.writer.rest ≡ true → (p : ℕ) → d.writer.place ≡ Some p → 1 ≤ p
