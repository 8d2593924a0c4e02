-- What a call lays does not depend on the words of the line, only on its length: laid on one line and put over another, it is what the same call lays on the other.
-- Assumes nothing.
use mathlib.Core.Path.{◌≡◌, refl, sym, ap, ap₂, ◌∙◌}
use mathlib.Core.List.{List, ◌++◌, append_assoc}
use mathlib.Core.Logic.{⊎_elim}
use Prim.Native.Nat.{ℕ, ◌+◌, ◌-◌, ◌≤◌, ◌<◌}
use native.Mathlib.Nat.{add-zero, zero-add, add_assoc}
use native.Mathlib.Omega.{arith}
use lib.ListN.{length, take, drop, length-drop}
use lib.Seq.{paste, paste-zero, take-take, take_at, drop_at, drop-drop, length-take-le, take-paste, drop-paste}
use Rattle.lists.proofs.Tests.{lt_or_le}
use Rattle.lists.proofs.Lists.{part_add, inside}
use Rattle.course.specs.Course.{place_of}
use Rattle.line.specs.Systems.{system_of}
use Rattle.line.specs.Layout.{payload_at}
use Rattle.writer.specs.declared.state.Writer.{Writer}

-- ---- words pasted, seen again
-- what was pasted into x, put over y, is pasted into y
pub pasted_over : (x y ws : List ℕ) (a k : ℕ) → a ≤ length x → k ≤ length ws → paste y a (drop a (paste x a ws k)) k ≡ paste y a ws k
pasted_over x y ws a k h l =
    let again : take k (drop a (paste x a ws k)) ≡ take k ws =
    ap (λ (r : List ℕ). take k (drop a r)) (append_assoc (take a x) (take k ws) (drop (a + k) x))
    ∙ ap (take k) (drop_at (take a x) (take k ws ++ drop (a + k) x) a (length-take-le a x h))
    ∙ take_at (take k ws) (drop (a + k) x) k (length-take-le k ws l) in
    ap (λ (r : List ℕ). (take a y ++ r) ++ drop (a + k) y) again

-- what stands before it stays
pub paste_front : (x ws : List ℕ) (a k : ℕ) → a ≤ length x → take a (paste x a ws k) ≡ take a x
paste_front x ws a k h = ap (take a) (append_assoc (take a x) (take k ws) (drop (a + k) x)) ∙ take_at (take a x) (take k ws ++ drop (a + k) x) a (length-take-le a x h)

-- two parts one behind the other are one part
two_parts : (x₁ x₂ y : List ℕ) (a k m : ℕ) → a + k ≤ length y → a + k ≤ length x₁ → take (a + k) x₂ ≡ take (a + k) x₁
    → paste (paste y a (drop a x₁) k) (a + k) (drop (a + k) x₂) m ≡ paste y a (drop a x₂) (k + m)
two_parts x₁ x₂ y a k m hy hx same =
    let first = paste y a (drop a x₁) k in
    let room : k ≤ length (drop a x₁) = rw (length-drop a x₁) (omega arith) in
    let part : take k (drop a x₁) ≡ take k (drop a x₂) = sym (inside a k (a + k) x₁ (omega arith)) ∙ ap (λ (l : List ℕ). take k (drop a l)) (sym same) ∙ inside a k (a + k) x₂ (omega arith) in
    let front : take (a + k) first ++ take m (drop (a + k) x₂) ≡ take a y ++ take (k + m) (drop a x₂) =
    ap (λ (l : List ℕ). l ++ take m (drop (a + k) x₂)) (take-paste y a (drop a x₁) k (omega arith) room ∙ ap (λ (l : List ℕ). take a y ++ l) part)
    ∙ append_assoc (take a y) (take k (drop a x₂)) (take m (drop (a + k) x₂))
    ∙ ap (λ (l : List ℕ). take a y ++ l) (sym (part_add a k m x₂)) in
    let back : drop (a + k + m) first ≡ drop (a + (k + m)) y =
    sym (drop-drop m (a + k) first) ∙ ap (drop m) (drop-paste y a (drop a x₁) k (omega arith) room) ∙ drop-drop m (a + k) y ∙ ap (λ (i : ℕ). drop i y) (add_assoc a k m) in
    ap₂ ◌++◌ front back

-- ---- a line on which a writer has moved on from its place
abbrev pub at : Writer → ℕ
at w = payload_at (system_of w.system) + place_of w.place

abbrev pub on : Writer → Writer → ℕ
on w v = place_of v.place - place_of w.place

-- what stands in x between the places of w and v, put over y
abbrev pub over : Writer → Writer → List ℕ → List ℕ → List ℕ
over w v x y = paste y (at w) (drop (at w) x) (on w v)

pub record Moves (w : Writer) (x : List ℕ) (v : Writer) (x' : List ℕ) : Type 0 where
  pub system : v.system ≡ w.system
  pub forward : place_of w.place ≤ place_of v.place
  pub long : length x' ≡ length x
  pub front : take (at w) x' ≡ take (at w) x
  pub within : place_of w.place < place_of v.place → payload_at (system_of w.system) + place_of v.place ≤ length x

pub stays : (w : Writer) (x : List ℕ) → Moves w x w x
stays w x = record { system = refl; forward = omega arith; long = refl; front = refl; within = λ h. absurd (omega (arith, h)) }

pub over_none : (w : Writer) (x y : List ℕ) → y ≡ over w w x y
over_none w x y =
    let none : 0 ≡ place_of w.place - place_of w.place = omega arith in
    paste-zero y (at w) (drop (at w) x) ∙ ap (paste y (at w) (drop (at w) x)) none

module _ {w v u : Writer} {x x' x'' : List ℕ} (m : Moves w x v x') (n : Moves v x' u x'') where
  start_same : payload_at (system_of v.system) ≡ payload_at (system_of w.system)
  start_same = ap (λ (s : ℕ). payload_at (system_of s)) m.system

  at_next : at v ≡ at w + on w v
  at_next = omega (arith, start_same, m.forward)

  pub moves_on : Moves w x u x''
  moves_on =
      let s = start_same in
      record {
        system = n.system ∙ m.system;
        forward = omega (arith, m.forward, n.forward);
        long = n.long ∙ m.long;
        front =
            sym (take-take (at w) (at v) x'' (omega (arith, at_next)))
            ∙ ap (take (at w)) n.front
            ∙ take-take (at w) (at v) x' (omega (arith, at_next))
            ∙ m.front;
        within = λ h. ⊎_elim (λ l. omega (arith, s, n.within l, m.long)) (λ l. let same : place_of v.place ≡ place_of u.place = omega (arith, l, n.forward) in omega (arith, same, m.within (omega (arith, h, same)))) (lt_or_le (place_of v.place) (place_of u.place));
      }

  pub over_on : (y : List ℕ) → length x ≡ length y → over v u x'' (over w v x' y) ≡ over w u x'' y
  over_on y same =
      let s = start_same in
      let k = on w v in
      let more = on v u in
      let all : k + more ≡ on w u = omega (arith, m.forward, n.forward) in
      ap (λ (i : ℕ). paste (over w v x' y) i (drop i x'') more) at_next
      ∙ ⊎_elim
      (λ h. two_parts x' x'' y (at w) k more (omega (arith, m.within (omega (arith, h)), same, m.forward)) (omega (arith, m.within (omega (arith, h)), m.long, m.forward))
      (ap (λ (i : ℕ). take i x'') (sym at_next) ∙ n.front ∙ ap (λ (i : ℕ). take i x') at_next))
      (λ h. let none : k ≡ 0 = omega (arith, h) in
      ap (λ (i : ℕ). paste (paste y (at w) (drop (at w) x') i) (at w + i) (drop (at w + i) x'') more) none
      ∙ ap₂ (λ (l : List ℕ) (i : ℕ). paste l i (drop i x'') more) (sym (paste-zero y (at w) (drop (at w) x'))) (add-zero (at w))
      ∙ ap (paste y (at w) (drop (at w) x'')) (sym (zero-add more) ∙ ap (λ (i : ℕ). i + more) (sym none)))
      (lt_or_le 0 k)
      ∙ ap (paste y (at w) (drop (at w) x'')) all
