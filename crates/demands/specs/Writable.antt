-- What a writer can be made to send: blocks that 17 and 18 let pass, over as many lines as they need; and a line that can be closed.
-- Assumes nothing.
use Rattle.std.specs.Prelude.{ℕ, ◌+◌, ◌^◌, ◌≤◌, ◌<◌, Bool, false, List, [], ◌∷◌, map, ◌≡◌, length, Option, Some, None}
use Rattle.line.specs.declared.settings.Settings.{Settings}
use Rattle.line.specs.Systems.{system_of}
use Rattle.line.specs.Fixed.{is_variable, size_of, places_of}
use Rattle.course.specs.Course.{next_number, blocks_end}
use Rattle.writer.specs.declared.state.Writer.{Writer}
use Rattle.writer.specs.declared.state.Answer.TheVariants.{Done}
use Rattle.writer.specs.Closing.{closing}
use Rattle.writer.specs.Filling.{joined, Filling}
use Rattle.demands.specs.All.{All}
use Rattle.demands.specs.Sending.{Call, Block, Complete, Sent, sent_fresh, blocks_of}
use Rattle.writer.specs.declared.state.Part.{Part}

-- A block that 17 and 18 let pass on a line of these settings.
pub record Passes (mode : ℕ) (t : Settings) (b : Block) : Type 0 where
  -- 17: no value above 255 (8-bit) or 511
  pub values : All (λ (v : ℕ). v < 2 ^ mode) b.values
  -- 18: n at most 16,384, type at most FFh; on a fixed line n is size-1, and the type isn't 00h
  pub number : length b.values ≤ 16384
  pub kind : b.kind ≤ 0xFF
  pub fixed : is_variable t.block ≡ false → (length b.values + 1 ≡ size_of t.block) × (1 ≤ b.kind)

-- a line was opened with these
abbrev pub OpenedWith : Bool → Bool → Settings → Sent → Type 0
OpenedWith f v t s = (s.f ≡ f) × ((s.v ≡ v) × (s.settings ≡ t))

-- the first line has number n, and each after it the next; the number after N is 1
abbrev pub NumbersFrom : ℕ → ℕ → List Sent → Type 0
NumbersFrom lines n [] = Unit {0}
NumbersFrom lines n (s ∷ ss) = (s.number ≡ n) × NumbersFrom lines (next_number lines n) ss

-- a next line only where the one before it is filled to where blocks end; and something is laid on it
abbrev pub Packed : ℕ → List Sent → Type 0
Packed system [] = Unit {0}
Packed system (s ∷ []) = Unit {0}
Packed system (s ∷ r ∷ ss) =
    (length (joined s.pieces) ≡ blocks_end (system_of system).payload s.settings.block s.settings.flag)
    × ((1 ≤ length r.pieces) × Packed system (r ∷ ss))

-- Calls on a fresh writer that send exactly these blocks, in order: on lines opened with F, V and the settings, from number n on.
pub record Writes (system mode : ℕ) (f v : Bool) (n : ℕ) (t : Settings) (bs : List Block) : Type 0 where
  pub calls : List Call
  pub blocks : map (λ (b : Complete). b.block) (blocks_of (sent_fresh system mode calls)) ≡ bs
  pub opened : All (OpenedWith f v t) (sent_fresh system mode calls)
  pub numbers : NumbersFrom (system_of system).lines n (sent_fresh system mode calls)
  pub packed : Packed system (sent_fresh system mode calls)
  pub some : 1 ≤ length (sent_fresh system mode calls)
  -- a fixed line takes as many blocks as it has places
  pub one_line : is_variable t.block ≡ false → length bs ≤ places_of (system_of system).payload t.block → length (sent_fresh system mode calls) ≡ 1

-- the type of an unfinished block is one byte, as the writer's state has it
abbrev pub TypeHeld : Option Part → Type 0
TypeHeld None = Unit {0}
TypeHeld (Some p) = p.kind ≤ 0xFF

-- Calls on an open line, and then a closing that is done.
pub record Closable (w : Writer) (line : List ℕ) : Type 0 where
  pub last : Writer
  pub full : List ℕ
  pub pieces : List (List ℕ)
  pub calls : Filling w line last full pieces []
  pub done : (closing last full).answer ≡ Done
