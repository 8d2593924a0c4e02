-- Numbers as bytes, lowest byte first; and settings as 41 bytes.
-- Assumes nothing.
use Rattle.std.specs.Prelude.{ℕ, zero, suc, ◌+◌, ◌*◌, ◌/◌, ◌%◌, List, [], ◌∷◌, ◌++◌, get_or}
use Rattle.lists.specs.Lists.{part}
use Rattle.line.specs.declared.settings.Settings.{Settings}

-- the k low bytes of a number
unfoldable pub bytes_for : ℕ → ℕ → List ℕ
bytes_for zero n = []
bytes_for (suc k) n = n % 256 ∷ bytes_for k (n / 256)

-- the number that bytes spell
unfoldable pub number_from : List ℕ → ℕ
number_from [] = 0
number_from (b ∷ s) = b + number_from s * 256

-- code, AAI, destination 16, source 16, block type, flag, reserved 5
unfoldable pub settings_bytes : Settings → List ℕ
settings_bytes t = t.code ∷ t.aai ∷ t.destination ++ (t.source ++ (t.block ∷ t.flag ∷ t.reserved))

-- the settings that 41 bytes spell
unfoldable pub settings_from : List ℕ → Settings
settings_from b =
    record {
      code = get_or b 0 0;
      aai = get_or b 1 0;
      destination = part 2 16 b;
      source = part 18 16 b;
      block = get_or b 34 0;
      flag = get_or b 35 0;
      reserved = part 36 5 b;
    }
