-- What holds of a writer's desk between any two calls.
-- Assumes nothing.
use Rattle.std.specs.Prelude.{Some, None}
use Prim.Native.Nat.{ℕ, ◌+◌, ◌≤◌}
use mathlib.Core.Bool.{true, false}
use mathlib.Core.List.{List, []}
use mathlib.Core.Path.{◌≡◌}
use lib.ListN.{length, take}
use Rattle.line.specs.declared.settings.Settings.{Settings}
use Rattle.line.specs.Systems.{system_of, is_system}
use Rattle.line.specs.Settings.{Held, settings_fault}
use Rattle.line.specs.Fixed.{is_variable, size_of}
use Rattle.line.proofs.SystemLaws.{Sound}
use Rattle.words.specs.Modes.{is_mode}
use Rattle.course.specs.Course.{is_at}
use Rattle.packets.specs.Packet.{packed}
use Rattle.packets.proofs.ListLaws.{AllSound}
use Rattle.writer.specs.State.{impossible, unfinished}
use Rattle.writer.specs.Adding.{valued}
use Rattle.writer.specs.Block.{block_words}
use Rattle.writer.specs.Filling.{joined}
use Rattle.writer.proofs.Writing.{Open}
use Rattle.demands.specs.All.{All}
use Rattle.demands.specs.Sending.{Desk, joined_pieces}

-- each list has so many words
abbrev pub AllLong : ℕ → List (List ℕ) → Type 0
AllLong n xs = All (λ (x : List ℕ). length x ≡ n) xs

-- a line of this number and these settings may be opened
pub record Openable (system mode n : ℕ) (t : Settings) : Type 0 where
  pub held : Held t
  pub known : is_system system ≡ true
  pub moded : is_mode mode ≡ true
  pub row : Sound (system_of system)
  pub clean : settings_fault system t ≡ 0
  pub one : 1 ≤ n
  pub most_lines : n ≤ (system_of system).lines

-- an open line: its words, and what it was opened with
pub record OpenNow (system mode : ℕ) (d : Desk) : Type 0 where
  pub is_open : Open system mode d.now.f d.now.v d.now.number d.now.settings (packed d.now.packets) (joined d.now.pieces) d.writer d.now.words
  pub openable : Openable system mode d.now.number d.now.settings
  pub last_is : d.writer.last ≡ Some d.now.number
  pub sound : AllSound d.now.packets
  -- a fixed line has whole places
  pub placed : is_variable d.now.settings.block ≡ false → AllLong (size_of d.now.settings.block) d.now.pieces

-- an unfinished block: a variable one, of which j words were laid
pub record Owing (mode : ℕ) (d : Desk) (kind n j : ℕ) : Type 0 where
  pub variable : is_variable d.writer.settings.block ≡ true
  pub long : length d.values ≡ n
  pub values_fit : valued mode d.values ≡ true
  pub some : 1 ≤ j
  pub short : j ≤ n + 6
  pub words : joined_pieces d.pieces ≡ take j (block_words mode kind d.values)

-- what is owed: nothing, or an unfinished block. Nothing is asked of a line.
pub record Owes (mode : ℕ) (d : Desk) : Type 0 where
  pub of_mode : d.writer.mode ≡ mode
  pub none_owing : d.writer.rest ≡ None → d.pieces ≡ []
  pub owing : (kind n j : ℕ) → d.writer.rest ≡ unfinished kind n j → Owing mode d kind n j

pub record DeskOk (system mode : ℕ) (d : Desk) : Type 0 where
  pub of_system : d.writer.system ≡ system
  pub possible : impossible d.writer ≡ false
  pub opened : is_at d.writer.place ≡ true → OpenNow system mode d
  pub owes : Owes mode d
