-- `writerimages::writer_image::held_writer` meets its contract: what a value of the type holds is known where the call starts, an enum's by cases. Assumes nothing.
use Rattle.std.specs.Prelude.{Option, Some, None, ℕ}
use mathlib.Core.Path.{◌≡◌, refl, subst}
use mathlib.Core.Bool.{true}
use Rattle.lists.proofs.Tests.{and_true}
use Rattle.line.specs.Settings.{Held}
use Rattle.fields.specs.Widths.{held_last, held_place}
use Rattle.writerimages.specs.Held.{held_rest}
use Rattle.images.proofs.HeldLaws.{fits_one, fits_two, fits_four, fits_eight}
use borrow.Author.Rules.{rules}
use Rattle.writerimages.proofs.writer_image.held_writer.Goals as goal
use Rattle.writer.specs.declared.state.Part.{Part}

pub returns : goal.returns
returns c =
    let st = c.args.w in
    let s = st.settings in
    let h = c.held in (
      refl,
      record {
        system_byte = fits_one st.system (search rules);
        mode_byte = fits_one st.mode (search rules);
        last_held = lasts st.last refl;
        place_held = places st.place refl;
        rest_held = rests st.rest refl;
        crc_held = fits_four st.crc (search rules);
        used_held = fits_two st.used (search rules);
        code_byte = fits_one s.code (search rules);
        aai_byte = fits_one s.aai (search rules);
        settings_held = subst Held h.ensures.0 h.ensures.1;
      },
    )
  where
    lasts : (x : Option ℕ) → c.args.w.last ≡ x → held_last x ≡ true
    lasts None e = refl
    lasts (Some n) e = let g = rw e at c.well_formed.0.1.1.1.1.0 in fits_two n (search rules)

    places : (x : Option ℕ) → c.args.w.place ≡ x → held_place x ≡ true
    places None e = refl
    places (Some q) e = let g = rw e at c.well_formed.0.1.1.1.1.1.1.0 in fits_eight q (search rules)

    rests : (x : Option Part) → c.args.w.rest ≡ x → held_rest x ≡ true
    rests None e = refl
    rests (Some p) e = let g = rw e at c.well_formed.0.1.1.1.1.1.1.1.0 in and_true (fits_one p.kind (search rules)) (and_true (fits_two p.count (search rules)) (fits_two p.laid (search rules)))
