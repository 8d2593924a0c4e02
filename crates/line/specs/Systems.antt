-- The four systems, by number.
-- Assumes nothing.
use Rattle.std.specs.Prelude.{ℕ, zero, suc, Bool, ltb}
use Rattle.line.specs.declared.systems.System.{System}

-- line length L, payload P, lines N; and the code: 1 is P 1440, 2 is P 1920
abbrev pub row : ℕ → ℕ → ℕ → ℕ → System
row l p n c = record { length = l; payload = p; lines = n; code = c }

-- 0: 270, 525; 1: 270, 625; 2: 360, 525; 3: 360, 625; every other number is no system
abbrev pub system_of : ℕ → System
system_of zero = row 1716 1440 525 1
system_of (suc zero) = row 1728 1440 625 1
system_of (suc (suc zero)) = row 2288 1920 525 2
system_of (suc (suc (suc zero))) = row 2304 1920 625 2
system_of (suc (suc (suc (suc n)))) = row 0 0 0 0

unfoldable pub is_system : ℕ → Bool
is_system system = ltb system 4
