-- Adding a block: answers 1, 2, 17-20, and what stands in the line and the state afterwards.
-- Assumes nothing.
use Rattle.std.specs.Prelude.{ℕ, ◌+◌, ◌-◌, min, Bool, false, ◌&&◌, ◌||◌, not, List, [], ◌∷◌, eqb, leb, ltb, length, take, drop, Option, Some, None}
use Rattle.std.proofs.Math.Seq.{paste}
use Rattle.lists.specs.Tests.{pick, Refusal, when, lowest_of}
use Rattle.lists.specs.Lists.{each}
use Rattle.words.specs.Crc.{crc_of}
use Rattle.words.specs.Modes.{values}
use Rattle.line.specs.Systems.{system_of}
use Rattle.line.specs.Fixed.{is_variable, size_of}
use Rattle.line.specs.Layout.{payload_at}
use Rattle.line.specs.Check.{fits_length}
use Rattle.course.specs.Course.{is_at, place_of}
use Rattle.writer.specs.declared.state.Writer.{Writer}
use Rattle.writer.specs.declared.state.Laid.TheVariants.{Refused, Finished, Unfinished}
use Rattle.writer.specs.State.{most, laid_of, impossible, end_in, moved, unfinished}
use Rattle.writer.specs.Block.{words_in}
use Rattle.writer.specs.Answers.{Added, added}
use Rattle.writer.specs.declared.state.Part.{Part}

-- 17: value above 255 (8-bit) or 511
unfoldable pub valued : ℕ → List ℕ → Bool
valued mode vs = each (λ v. ltb v (values mode)) vs

-- 18: n above 16,384 or type above FFh; fixed line open: n not size-1 or type 00h
unfoldable pub ill_shaped : Option ℕ → ℕ → ℕ → ℕ → Bool
ill_shaped place block kind n =
    ltb most n || (ltb 255 kind || ((is_at place && not (is_variable block)) && (not (eqb (n + 1) (size_of block)) || eqb kind 0)))

-- 19: no place (variable: word) left in the open line
abbrev pub is_full : ℕ → Option ℕ → Bool
is_full end None = false
is_full end (Some p) = leb end p

-- an unfinished block, and another type or length lent
abbrev pub is_other : Option Part → ℕ → ℕ → Bool
is_other None kind n = false
is_other (Some p) kind n = not (eqb p.kind kind && eqb p.count n)

-- 1; 2; 17; 18; 19; 20: none open, or unfinished block and a changed type or length
abbrev pub add_faults : Writer → ℕ → ℕ → List ℕ → List Refusal
add_faults w long kind vs =
    when 1 (not (fits_length w.system w.mode long))
    ∷ when 2 (impossible w)
    ∷ when 17 (not (valued w.mode vs))
    ∷ when 18 (ill_shaped w.place w.settings.block kind (length vs))
    ∷ when 19 (is_full (end_in w) w.place)
    ∷ when 20 (not (is_at w.place) || is_other w.rest kind (length vs))
    ∷ []

unfoldable pub add_fault : Writer → ℕ → ℕ → List ℕ → ℕ
add_fault w long kind vs = lowest_of (add_faults w long kind vs)

-- the words of the block that are still to lay, and how many of them fit
abbrev pub todo : Writer → ℕ → List ℕ → List ℕ
todo w kind vs = drop (laid_of w.rest) (words_in w.settings.block w.mode kind vs)

abbrev pub fitting : Writer → List ℕ → ℕ
fitting w ws = min (end_in w - place_of w.place) (length ws)

-- k of the words ws laid at the place: finished where these are all; the CRC is taken on over the k words, whatever the flag
abbrev pub laying : Writer → List ℕ → ℕ → ℕ → List ℕ → ℕ → Added
laying w line kind n ws k =
    added (pick (eqb k (length ws)) Finished Unfinished)
    (moved w (Some (place_of w.place + k)) (pick (eqb k (length ws)) None (unfinished kind n (laid_of w.rest + k))) (crc_of w.crc (take k ws)))
    (paste line (payload_at (system_of w.system) + place_of w.place) ws k)

abbrev pub lay : Writer → List ℕ → ℕ → List ℕ → Added
lay w line kind vs = let ws = todo w kind vs in laying w line kind (length vs) ws (fitting w ws)

-- Adding lays as much of a block as fits; a refusal leaves line and state.
unfoldable pub adding : Writer → List ℕ → ℕ → List ℕ → Added
adding w line kind vs =
    let fault = add_fault w (length line) kind vs in
    pick (eqb fault 0) (lay w line kind vs) (added (Refused fault) w line)
