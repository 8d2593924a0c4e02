-- `images::reader_image::held_reader` meets its contract: what a value of the type holds is known where the call starts, an enum's by cases. Assumes nothing.
use Rattle.std.specs.Prelude.{Option, Some, None, ℕ}
use mathlib.Core.Path.{◌≡◌, refl, subst}
use mathlib.Core.Bool.{true}
use Rattle.lists.proofs.Tests.{and_true}
use Rattle.line.specs.Settings.{Held}
use Rattle.machine.specs.declared.phase.Mark.TheVariants.{Typed, Nulled}
use Rattle.machine.specs.declared.phase.Phase.{Phase}
use Rattle.machine.specs.declared.phase.Phase.TheVariants.{Idle, Kind, First, Second, Third, Fourth, Data}
use Rattle.fields.specs.Widths.{held_last, held_place}
use Rattle.images.specs.Held.{held_phase}
use Rattle.images.proofs.HeldLaws.{fits_one, fits_two, fits_eight}
use borrow.Author.Rules.{rules}
use Rattle.images.proofs.reader_image.held_reader.Goals as goal

pub returns : goal.returns
returns c =
    let st = c.args.st in
    let s = st.settings in
    let h = c.held in (
      refl,
      record {
        system_byte = fits_one st.system (search rules);
        mode_byte = fits_one st.mode (search rules);
        last_held = lasts st.last refl;
        place_held = places st.place refl;
        phase_held = phases st.phase refl;
        code_byte = fits_one s.code (search rules);
        aai_byte = fits_one s.aai (search rules);
        settings_held = subst Held h.ensures.0 h.ensures.1;
      },
    )
  where
    lasts : (x : Option ℕ) → c.args.st.last ≡ x → held_last x ≡ true
    lasts None e = refl
    lasts (Some n) e = let g = rw e at c.well_formed.0.1.1.1.1.0 in fits_two n (search rules)

    places : (x : Option ℕ) → c.args.st.place ≡ x → held_place x ≡ true
    places None e = refl
    places (Some q) e = let g = rw e at c.well_formed.0.1.1.1.1.1.1.0 in fits_eight q (search rules)

    phases : (x : Phase) → c.args.st.phase ≡ x → held_phase x ≡ true
    phases Idle e = refl
    phases Kind e = refl
    phases (First (Typed k)) e = let g = rw e at c.well_formed.0.1.1.1.1.1.1.1.0 in fits_one k (search rules)
    phases (First Nulled) e = refl
    phases (Second (Typed k) a) e = let g = rw e at c.well_formed.0.1.1.1.1.1.1.1.0 in and_true (fits_one k (search rules)) (fits_one a (search rules))
    phases (Second Nulled a) e = let g = rw e at c.well_formed.0.1.1.1.1.1.1.1.0 in fits_one a (search rules)
    phases (Third (Typed k) a b) e = let g = rw e at c.well_formed.0.1.1.1.1.1.1.1.0 in and_true (fits_one k (search rules)) (and_true (fits_one a (search rules)) (fits_one b (search rules)))
    phases (Third Nulled a b) e = let g = rw e at c.well_formed.0.1.1.1.1.1.1.1.0 in and_true (fits_one a (search rules)) (fits_one b (search rules))
    phases (Fourth (Typed k) a b d) e = let g = rw e at c.well_formed.0.1.1.1.1.1.1.1.0 in and_true (fits_one k (search rules)) (and_true (fits_one a (search rules)) (and_true (fits_one b (search rules)) (fits_one d (search rules))))
    phases (Fourth Nulled a b d) e = let g = rw e at c.well_formed.0.1.1.1.1.1.1.1.0 in and_true (fits_one a (search rules)) (and_true (fits_one b (search rules)) (fits_one d (search rules)))
    phases (Data (Typed k) n j) e = let g = rw e at c.well_formed.0.1.1.1.1.1.1.1.0 in and_true (fits_one k (search rules)) (and_true (fits_eight n (search rules)) (fits_eight j (search rules)))
    phases (Data Nulled n j) e = let g = rw e at c.well_formed.0.1.1.1.1.1.1.1.0 in and_true (fits_eight n (search rules)) (fits_eight j (search rules))
