-- A number that fits its width is held.
-- Assumes nothing.
use mathlib.Core.Path.{◌≡◌}
use mathlib.Core.Bool.{true}
use Prim.Native.Nat.{ℕ}
use mir.Val.{Fits}
use mir.Syntax.{w8, w16, w32, w64}
use borrow.Author.Tests.{lt-ltb}
use Rattle.line.specs.Settings.{small}
use Rattle.fields.specs.Widths.{two, four, eight}

pub fits_one : (n : ℕ) → Fits w8 n → small n ≡ true
fits_one n f = lt-ltb _ _ f.fits

pub fits_two : (n : ℕ) → Fits w16 n → two n ≡ true
fits_two n f = lt-ltb _ _ f.fits

pub fits_four : (n : ℕ) → Fits w32 n → four n ≡ true
fits_four n f = lt-ltb _ _ f.fits

pub fits_eight : (n : ℕ) → Fits w64 n → eight n ≡ true
fits_eight n f = lt-ltb _ _ f.fits
