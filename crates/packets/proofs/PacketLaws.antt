-- Laws of one packet at the front of a gap: what its faults say, and what is laid.
-- Assumes nothing.
use mathlib.Core.Path.{◌≡◌, refl, sym, ap, ◌∙◌}
use mathlib.Core.Bool.{true, false, not}
use mathlib.Core.List.{List}
use Prim.Native.Nat.{ℕ, ◌+◌, ◌<◌, ◌≤◌}
use native.Mathlib.Omega.{arith}
use lib.ListN.{length, get_or, take, length-take}
use borrow.Author.Tests.{lt-ltb, le-ltb, ltb-false, eq-eqb, ne_eqb, eqb-true, not-false}
use Rattle.lists.specs.Tests.{rising}
use Rattle.lists.specs.Lists.{part, each}
use Rattle.lists.proofs.Tests.{both_true, and_true, pick_true, pick_false}
use Rattle.lists.proofs.Refusals.{lowest_clear, clear_lowest}
use Rattle.lists.proofs.Loops.{same_lengths}
use Rattle.words.specs.Forms.{is_byte, is_data}
use Rattle.words.specs.Checksum.{checksum}
use Rattle.line.specs.Header.{flag_words}
use Rattle.line.specs.Check.{low}
use Rattle.packets.specs.declared.packet.Look.TheVariants.{Nothing, Whole, Bad}
use Rattle.packets.specs.Gap.{flag_at, count_at, faults_at, fault_at, look_at}

-- ---- the flag
pub no_flag : (g : List ℕ) → length g < 3 → flag_at g ≡ false
no_flag g h = same_lengths (take 3 g) flag_words (λ e. omega (arith, e, length-take 3 g))

-- ---- the faults
pub fault_rising : (g : List ℕ) → rising (faults_at g) ≡ true
unfolding faults_at
fault_rising g = refl

pub runs_past : (g : List ℕ) → length g < count_at g + 7 → 21 ≡ fault_at g
unfolding fault_at faults_at
runs_past g h = sym (pick_true 21 _ (lt-ltb (length g) (count_at g + 7) h))

-- a packet without fault
pub record Good (g : List ℕ) : Type 0 where
  pub long : count_at g + 7 ≤ length g
  pub bytes : each is_byte (part 3 3 g) ≡ true
  pub datas : each is_data (part 6 (count_at g + 1) g) ≡ true
  pub sum : get_or g (count_at g + 6) 0 ≡ checksum (part 3 (count_at g + 3) g)

pub good : (g : List ℕ) → fault_at g ≡ 0 → Good g
unfolding fault_at faults_at
good g e =
    let k = lowest_clear (faults_at g) (fault_rising g) e in
    let b = both_true _ _ (not-false _ k.1.0) in
    record { long = ltb-false (length g) (count_at g + 7) k.0; bytes = b.0; datas = b.1; sum = eqb-true _ _ (not-false _ k.1.1.0) }

pub no_fault : (g : List ℕ) → Good g → fault_at g ≡ 0
unfolding fault_at faults_at
no_fault g k = clear_lowest (faults_at g) (le-ltb (length g) (count_at g + 7) k.long, (ap not (and_true k.bytes k.datas), (ap not (eq-eqb _ _ k.sum), tt)))

-- ---- what stands at the front
pub look_nothing : (g : List ℕ) → flag_at g ≡ false → look_at g ≡ Nothing
unfolding look_at
look_nothing g e = pick_false _ _ e

pub look_bad : (g : List ℕ) → flag_at g ≡ true → (fault_at g ≡ 0 → ⊥) → look_at g ≡ Bad (fault_at g)
unfolding look_at
look_bad g e h = pick_true _ _ e ∙ pick_false _ _ (ne_eqb (fault_at g) 0 h)

pub look_whole : (g : List ℕ) → flag_at g ≡ true → fault_at g ≡ 0 → look_at g ≡ Whole (low (get_or g 3 0)) (low (get_or g 4 0)) (count_at g)
unfolding look_at
look_whole g e h = pick_true _ _ e ∙ pick_true _ _ (eq-eqb (fault_at g) 0 h)
