-- The settings, kept as byte values, and their faults 10 to 13.
-- Assumes nothing.
use Rattle.std.specs.Prelude.{ℕ, ◌<◌, Bool, true, ◌&&◌, not, List, [], ◌∷◌, ◌≡◌, eqb, ltb, length, replicate}
use Rattle.lists.specs.Tests.{Refusal, when, lowest_of}
use Rattle.lists.specs.Lists.{same, each}
use Rattle.line.specs.declared.settings.Settings.{Settings}
use Rattle.line.specs.declared.systems.System.{System}
use Rattle.line.specs.Systems.{system_of}
use Rattle.line.specs.Fixed.{block_refused}

-- settings zero
abbrev pub no_settings : Settings
no_settings = record { code = 0; aai = 0; destination = replicate 16 0; source = replicate 16 0; block = 0; flag = 0; reserved = replicate 5 0 }

-- what any value of the type holds: arrays of their lengths, and bytes
abbrev pub small : ℕ → Bool
small b = ltb b 256

pub record Held (s : Settings) : Type 0 where
  pub to : length s.destination ≡ 16
  pub from : length s.source ≡ 16
  pub five : length s.reserved ≡ 5
  pub to_bytes : each small s.destination ≡ true
  pub from_bytes : each small s.source ≡ true
  pub five_bytes : each small s.reserved ≡ true
  pub block_byte : s.block < 256
  pub flag_byte : s.flag < 256

-- 10: code not the system's; 11: AAI, which is 0 or 1; 12: block type; 13: flag, which is 00h or 01h. The five reserved bytes are handed through,
-- whatever they are: 14 is no longer given (02, Item 5), and no other refusal takes its number.
unfoldable pub settings_faults : System → Settings → List Refusal
settings_faults row s =
    when 10 (not (eqb s.code row.code))
    ∷ when 11 (ltb 1 s.aai)
    ∷ when 12 (block_refused row.payload s.block s.flag)
    ∷ when 13 (ltb 1 s.flag)
    ∷ []

-- the lowest of 10 to 13 that holds, or 0
unfoldable pub settings_fault : ℕ → Settings → ℕ
settings_fault system s = lowest_of (settings_faults (system_of system) s)

-- the settings are equal, the five reserved bytes too
unfoldable pub same_settings : Settings → Settings → Bool
same_settings a b =
    eqb a.code b.code
    && (eqb a.aai b.aai
    && (same a.destination b.destination
    && (same a.source b.source && (eqb a.block b.block && (eqb a.flag b.flag && same a.reserved b.reserved)))))
