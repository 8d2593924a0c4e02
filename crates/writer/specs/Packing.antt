-- Adding a packet in the gap of the open line: answers 1, 2, 17, 18, 20, 24, and what stands in the line and the state afterwards.
-- Assumes nothing.
use Rattle.std.specs.Prelude.{ℕ, ◌+◌, not, List, [], ◌∷◌, eqb, ltb, length}
use Rattle.std.proofs.Math.Seq.{paste}
use Rattle.lists.specs.Tests.{pick, Refusal, when, lowest_of}
use Rattle.lists.specs.Lists.{each}
use Rattle.line.specs.Systems.{system_of}
use Rattle.line.specs.Layout.{gap_at}
use Rattle.line.specs.Check.{fits_length}
use Rattle.packets.specs.Packet.{packet_words}
use Rattle.packets.specs.Listing.{gap_length}
use Rattle.course.specs.Course.{is_at}
use Rattle.writer.specs.declared.state.Writer.{Writer}
use Rattle.writer.specs.declared.state.Answer.TheVariants.{Refused, Done}
use Rattle.writer.specs.State.{impossible, used_to}
use Rattle.writer.specs.Answers.{Left, left}

-- 1; 2; 17: word above 511, in either mode; 18: over 255 words; 20: none open; 24: packet and words used exceed the gap
abbrev pub pack_faults : Writer → ℕ → List ℕ → List Refusal
pack_faults w long vs =
    when 1 (not (fits_length w.system w.mode long))
    ∷ when 2 (impossible w)
    ∷ when 17 (not (each (λ v. ltb v 512) vs))
    ∷ when 18 (ltb 255 (length vs))
    ∷ when 20 (not (is_at w.place))
    ∷ when 24 (ltb (gap_length (system_of w.system)) (w.used + (length vs + 7)))
    ∷ []

unfoldable pub pack_fault : Writer → ℕ → List ℕ → ℕ
pack_fault w long vs = lowest_of (pack_faults w long vs)

-- the packet's n+7 words stand behind the words used, and no other word changes; a refusal leaves line and state
unfoldable pub packing : Writer → List ℕ → ℕ → ℕ → List ℕ → Left
packing w line did second vs =
    let fault = pack_fault w (length line) vs in
    pick (eqb fault 0) (left Done (used_to w (w.used + (length vs + 7))) (paste line (gap_at + w.used) (packet_words did second vs) (length vs + 7))) (left (Refused fault) w line)
