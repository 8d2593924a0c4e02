-- Laws of parts as they are lent: from the first word on, and to the last.
-- Assumes nothing.
use Rattle.std.proofs.Common.{◌≡◌, ℕ, ◌-◌, List, length, take, drop, ap, ◌∙◌}
use native.Mathlib.Nat.{sub-zero}
use Rattle.machine.proofs.Going.{rest_lent}

pub from_first : (k : ℕ) (ws : List ℕ) {part : List ℕ} → part ≡ take (k - 0) (drop 0 ws) → part ≡ take k ws
from_first k ws e = e ∙ ap (λ (n : ℕ). take n ws) (sub-zero k)

-- n is how many words there are
pub to_last : (i : ℕ) (ws : List ℕ) {n : ℕ} {part : List ℕ} → n ≡ length ws → part ≡ take (n - i) (drop i ws) → part ≡ drop i ws
to_last i ws many e = e ∙ ap (λ (k : ℕ). take (k - i) (drop i ws)) many ∙ rest_lent i ws
