-- The reader's image: every state of the type comes back from it, an image gives itself again, and any 80 bytes spell a state of the type.
-- Assumes nothing.
use Rattle.std.specs.Prelude.{Option}
use mathlib.Core.Path.{◌≡◌, refl, sym, ap, ap₂, ◌∙◌}
use mathlib.Core.Bool.{true}
use mathlib.Core.List.{List, [], ◌∷◌, ◌++◌}
use Prim.Native.Nat.{ℕ, zero, suc, ◌+◌}
use native.Mathlib.Omega.{arith}
use lib.ListN.{length, get_or, take, drop, length-append}
use lib.Seq.{take_at, drop_at, drop-drop, take_all}
use borrow.Author.Tests.{lt-ltb, ltb-true}
use Rattle.lists.specs.Lists.{each}
use Rattle.lists.proofs.Tests.{both_true, and_true}
use Rattle.lists.proofs.Lists.{same_eq, eq_same, each_at}
use Rattle.line.specs.Settings.{small}
use Rattle.machine.specs.declared.phase.Mark.{Mark}
use Rattle.machine.specs.declared.phase.Mark.TheVariants.{Typed, Nulled}
use Rattle.machine.specs.declared.phase.Phase.{Phase}
use Rattle.machine.specs.declared.phase.Phase.TheVariants.{Idle, Kind, First, Second, Third, Fourth, Data}
use Rattle.reader.specs.declared.state.Reader.{Reader}
use Rattle.reader.specs.Reading.{becomes}
use Rattle.fields.specs.Fields.{bytes_for, number_from, settings_bytes}
use Rattle.fields.specs.Frame.{last_bytes, held_in}
use Rattle.images.specs.ReaderImage.{reader_tag, mark_bytes, mark_by, phase_byte, count_bytes, phase_bytes, phase_by, phase_in, image_of, state_of, is_image, stand_bytes, moved}
use Rattle.fields.specs.Widths.{eight}
use Rattle.images.specs.Held.{held_mark, held_phase, HeldReader}
use Rattle.fields.proofs.NumberLaws.{length_bytes, number_bytes}
use Rattle.fields.proofs.FrameLaws.{FrameBack, frame_back, frame_held, length_framed, length_last, length_stand, frame_join, part_number}

-- ---- the phase
length_mark : (m : Mark) → length (mark_bytes m) ≡ 2
length_mark (Typed k) = refl
length_mark Nulled = refl

length_count : (a b c n j : ℕ) → length (count_bytes a b c n j) ≡ 19
length_count a b c n j = simp length-append (omega (arith, length_bytes 8 n, length_bytes 8 j))

length_marked : (m : Mark) (a b c n j : ℕ) → length (mark_bytes m ++ count_bytes a b c n j) ≡ 21
length_marked m a b c n j = length-append (mark_bytes m) (count_bytes a b c n j) ∙ ap₂ (λ (x y : ℕ). x + y) (length_mark m) (length_count a b c n j)

pub length_phase : (p : Phase) → length (phase_bytes p) ≡ 21
length_phase Idle = ap (λ (n : ℕ). suc (suc n)) (length_count 0 0 0 0 0)
length_phase Kind = ap (λ (n : ℕ). suc (suc n)) (length_count 0 0 0 0 0)
length_phase (First m) = length_marked m 0 0 0 0 0
length_phase (Second m a) = length_marked m a 0 0 0 0
length_phase (Third m a b) = length_marked m a b 0 0 0
length_phase (Fourth m a b c) = length_marked m a b c 0 0
length_phase (Data m n j) = length_marked m 0 0 0 n j

-- the two numbers behind the mark and the count bytes
announced_back : (n j : ℕ) → eight n ≡ true → number_from (take 8 (bytes_for 8 n ++ bytes_for 8 j)) ≡ n
announced_back n j h = ap number_from (take_at (bytes_for 8 n) (bytes_for 8 j) 8 (length_bytes 8 n)) ∙ number_bytes 8 n (ltb-true _ _ h)

collected_back : (n j : ℕ) → eight j ≡ true → number_from (take 8 (drop 8 (bytes_for 8 n ++ bytes_for 8 j))) ≡ j
collected_back n j h =
    ap (λ (l : List ℕ). number_from (take 8 l)) (drop_at (bytes_for 8 n) (bytes_for 8 j) 8 (length_bytes 8 n))
    ∙ ap number_from (take_all 8 (bytes_for 8 j) (omega (arith, length_bytes 8 j)))
    ∙ number_bytes 8 j (ltb-true _ _ h)

data_back : (m : Mark) (n j : ℕ) → (eight n ≡ true) × (eight j ≡ true) → Data m (number_from (take 8 (bytes_for 8 n ++ bytes_for 8 j))) (number_from (take 8 (drop 8 (bytes_for 8 n ++ bytes_for 8 j)))) ≡ Data m n j
data_back m n j h = ap₂ (Data m) (announced_back n j h.0) (collected_back n j h.1)

phase_back_lem : (p : Phase) → held_phase p ≡ true → phase_by (phase_byte p) (mark_by (get_or (phase_bytes p) 0 0) (get_or (phase_bytes p) 1 0)) (phase_bytes p) ≡ p
phase_back_lem Idle h = refl
phase_back_lem Kind h = refl
phase_back_lem (First (Typed k)) h = refl
phase_back_lem (First Nulled) h = refl
phase_back_lem (Second (Typed k) a) h = refl
phase_back_lem (Second Nulled a) h = refl
phase_back_lem (Third (Typed k) a b) h = refl
phase_back_lem (Third Nulled a b) h = refl
phase_back_lem (Fourth (Typed k) a b c) h = refl
phase_back_lem (Fourth Nulled a b c) h = refl
phase_back_lem (Data (Typed k) n j) h = data_back (Typed k) n j (both_true (eight n) (eight j) (both_true (small k) _ h).1)
phase_back_lem (Data Nulled n j) h = data_back Nulled n j (both_true (eight n) (eight j) h)

mark_held : (n k : ℕ) → small k ≡ true → held_mark (mark_by n k) ≡ true
mark_held zero k h = h
mark_held (suc zero) k h = h
mark_held (suc (suc n)) k h = refl

phase_held : (n : ℕ) (m : Mark) (s : List ℕ) → held_mark m ≡ true → each small s ≡ true → length s ≡ 21 → held_phase (phase_by n m s) ≡ true
phase_held zero m s h b l = refl
phase_held (suc zero) m s h b l = refl
phase_held (suc (suc zero)) m s h b l = h
phase_held (suc (suc (suc zero))) m s h b l = and_true h (each_at small s 2 (omega arith) b)
phase_held (suc (suc (suc (suc zero)))) m s h b l = and_true h (and_true (each_at small s 2 (omega arith) b) (each_at small s 3 (omega arith) b))
phase_held (suc (suc (suc (suc (suc zero))))) m s h b l =
    and_true h (and_true (each_at small s 2 (omega arith) b) (and_true (each_at small s 3 (omega arith) b) (each_at small s 4 (omega arith) b)))
phase_held (suc (suc (suc (suc (suc (suc zero)))))) m s h b l =
    and_true h (and_true (lt-ltb _ _ (part_number s 5 8 b (omega arith))) (lt-ltb _ _ (part_number s 13 8 b (omega arith))))
phase_held (suc (suc (suc (suc (suc (suc (suc n))))))) m s h b l = refl

-- ---- the state
back : (st : Reader) → HeldReader st
    → FrameBack st.system st.mode st.last st.place (phase_byte st.phase) (phase_bytes st.phase) st.settings (image_of st)
unfolding image_of
back st h =
    frame_back reader_tag st.system st.mode st.last st.place (phase_byte st.phase) (phase_bytes st.phase) st.settings
    h.last_held h.place_held (length_phase st.phase) h.settings_held

-- I1: the image of a state spells that state again
pub state_image : (st : Reader) → HeldReader st → state_of (image_of st) ≡ st
unfolding state_of phase_in
state_image st h =
    let f = back st h in
    let phase : phase_in (image_of st) ≡ st.phase =
    ap₂ (λ (n : ℕ) (s : List ℕ). phase_by n (mark_by (get_or s 0 0) (get_or s 1 0)) s) f.kind_is f.held_is ∙ phase_back_lem st.phase h.phase_held
    in
    simp (f.system_is, f.mode_is, f.last_is, f.settings_is, f.place_is, phase)

-- I2: an image is what the state that it spells gives
pub image_state : (b : List ℕ) → is_image b ≡ true → image_of (state_of b) ≡ b
unfolding is_image
image_state b h = sym (same_eq b (image_of (state_of b)) h)

-- I3: what a state gives is an image, and whatever 80 bytes spell is a value of the type
pub image_given : (st : Reader) → HeldReader st → is_image (image_of st) ≡ true
unfolding is_image
image_given st h = eq_same (image_of st) (image_of (state_of (image_of st))) (ap image_of (sym (state_image st h)))

pub bytes_held : (b : List ℕ) → each small b ≡ true → length b ≡ 80 → HeldReader (state_of b)
unfolding state_of phase_in
bytes_held b h l =
    let f = frame_held b h l in
    record {
      system_byte = f.system_byte;
      mode_byte = f.mode_byte;
      last_held = f.last_of;
      place_held = f.place_of_lem;
      phase_held = phase_held (get_or b 7 0) _ (held_in b) (mark_held (get_or (held_in b) 0 0) _ (each_at small (held_in b) 1 (omega (arith, f.held_long)) f.held_bytes)) f.held_bytes f.held_long;
      code_byte = f.code_byte;
      aai_byte = f.aai_byte;
      settings_held = f.settings_of_lem;
    }

pub image_length_lem : (st : Reader) → HeldReader st → length (image_of st) ≡ 80
unfolding image_of
image_length_lem st h =
    length_framed reader_tag st.system st.mode st.last st.place (phase_byte st.phase) (phase_bytes st.phase) st.settings (length_phase st.phase) h.settings_held

-- ---- another place and another phase
-- I5: an image in which only these are others is the image of the state with these
pub moved_image : (b : List ℕ) → is_image b ≡ true → (p : Option ℕ) (h : Phase)
    → let st = state_of b in
    moved p h b ≡ image_of (becomes st st.last st.settings p h)
unfolding moved image_of
moved_image b e p h =
    let st = state_of b in
    let front = reader_tag ∷ st.system ∷ st.mode ∷ last_bytes st.last in
    let foot = settings_bytes st.settings ++ (0 ∷ 0 ∷ []) in
    let old = stand_bytes st.place st.phase in
    let whole : b ≡ front ++ (old ++ foot) =
    sym (image_state b e) ∙ sym (frame_join reader_tag st.system st.mode st.last st.place (phase_byte st.phase) (phase_bytes st.phase) st.settings)
    in
    let six : length front ≡ 6 = ap (λ (n : ℕ). suc (suc (suc n))) (length_last st.last) in
    let long : length old ≡ 31 = length_stand st.place (phase_byte st.phase) (phase_bytes st.phase) (length_phase st.phase) in
    let in_front : take 6 b ≡ front = ap (take 6) whole ∙ take_at front (old ++ foot) 6 six in
    let behind : drop 37 b ≡ foot =
    sym (drop-drop 31 6 b) ∙ ap (λ (l : List ℕ). drop 31 (drop 6 l)) whole ∙ ap (drop 31) (drop_at front (old ++ foot) 6 six) ∙ drop_at old foot 31 long
    in
    ap₂ (λ (x y : List ℕ). x ++ (stand_bytes p h ++ y)) in_front behind
    ∙ frame_join reader_tag st.system st.mode st.last p (phase_byte h) (phase_bytes h) st.settings
