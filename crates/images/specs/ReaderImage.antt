-- The reader's state as 80 bytes, and back. In 7 stands the phase: 0 idle; 1 type awaited; 2 to 5 the first to the fourth count byte awaited; 6 data.
-- Of the block are held: 16 the mark, 0 none, 1 a type, 2 a null; 17 the type; 18-20 the count bytes so far; 21-28 the count announced; 29-36 the number collected.
-- Assumes nothing.
use Rattle.std.specs.Prelude.{ℕ, zero, suc, Bool, List, [], ◌∷◌, ◌++◌, get_or, take, drop, Option}
use Rattle.lists.specs.Lists.{part, same}
use Rattle.course.specs.Course.{place_of}
use Rattle.machine.specs.declared.phase.Mark.{Mark}
use Rattle.machine.specs.declared.phase.Mark.TheVariants.{Typed, Nulled}
use Rattle.machine.specs.declared.phase.Phase.{Phase}
use Rattle.machine.specs.declared.phase.Phase.TheVariants.{Idle, Kind, First, Second, Third, Fourth, Data}
use Rattle.reader.specs.declared.state.Reader.{Reader}
use Rattle.fields.specs.Fields.{bytes_for, number_from, settings_from}
use Rattle.fields.specs.Frame.{place_byte, framed, last_in, place_in, held_in}

abbrev pub reader_tag : ℕ
reader_tag = 0x52

-- the mark and the type; a null has no type
abbrev pub mark_bytes : Mark → List ℕ
mark_bytes (Typed k) = 1 ∷ k ∷ []
mark_bytes Nulled = 2 ∷ 0 ∷ []

abbrev pub mark_by : ℕ → ℕ → Mark
mark_by zero k = Typed k
mark_by (suc zero) k = Typed k
mark_by (suc (suc n)) k = Nulled

abbrev pub phase_byte : Phase → ℕ
phase_byte Idle = 0
phase_byte Kind = 1
phase_byte (First m) = 2
phase_byte (Second m a) = 3
phase_byte (Third m a b) = 4
phase_byte (Fourth m a b c) = 5
phase_byte (Data m n j) = 6

-- count bytes so far, the count announced and the number collected
abbrev pub count_bytes : ℕ → ℕ → ℕ → ℕ → ℕ → List ℕ
count_bytes a b c n j = a ∷ b ∷ c ∷ bytes_for 8 n ++ bytes_for 8 j

abbrev pub phase_bytes : Phase → List ℕ
phase_bytes Idle = 0 ∷ 0 ∷ count_bytes 0 0 0 0 0
phase_bytes Kind = 0 ∷ 0 ∷ count_bytes 0 0 0 0 0
phase_bytes (First m) = mark_bytes m ++ count_bytes 0 0 0 0 0
phase_bytes (Second m a) = mark_bytes m ++ count_bytes a 0 0 0 0
phase_bytes (Third m a b) = mark_bytes m ++ count_bytes a b 0 0 0
phase_bytes (Fourth m a b c) = mark_bytes m ++ count_bytes a b c 0 0
phase_bytes (Data m n j) = mark_bytes m ++ count_bytes 0 0 0 n j

-- the phase by its number, its mark and the bytes held; a number that no phase has is idle, and so no image
abbrev pub phase_by : ℕ → Mark → List ℕ → Phase
phase_by zero m h = Idle
phase_by (suc zero) m h = Kind
phase_by (suc (suc zero)) m h = First m
phase_by (suc (suc (suc zero))) m h = Second m (get_or h 2 0)
phase_by (suc (suc (suc (suc zero)))) m h = Third m (get_or h 2 0) (get_or h 3 0)
phase_by (suc (suc (suc (suc (suc zero))))) m h = Fourth m (get_or h 2 0) (get_or h 3 0) (get_or h 4 0)
phase_by (suc (suc (suc (suc (suc (suc zero)))))) m h = Data m (number_from (part 5 8 h)) (number_from (part 13 8 h))
phase_by (suc (suc (suc (suc (suc (suc (suc n))))))) m h = Idle

unfoldable pub phase_in : List ℕ → Phase
phase_in b = phase_by (get_or b 7 0) (mark_by (get_or (held_in b) 0 0) (get_or (held_in b) 1 0)) (held_in b)

unfoldable pub image_of : Reader → List ℕ
image_of st = framed reader_tag st.system st.mode st.last st.place (phase_byte st.phase) (phase_bytes st.phase) st.settings

-- the state that bytes spell, whatever they are
unfoldable pub state_of : List ℕ → Reader
state_of b =
    record {
      system = get_or b 1 0;
      mode = get_or b 2 0;
      last = last_in b;
      settings = settings_from (part 37 41 b);
      place = place_in b;
      phase = phase_in b;
    }

-- an image is what a state gives: the state that it spells gives it again
unfoldable pub is_image : List ℕ → Bool
is_image b = same b (image_of (state_of b))

-- ---- an image in which only the place and the phase are others: bytes 6 to 36
abbrev pub stand_bytes : Option ℕ → Phase → List ℕ
stand_bytes place phase = place_byte place ∷ phase_byte phase ∷ bytes_for 8 (place_of place) ++ phase_bytes phase

unfoldable pub moved : Option ℕ → Phase → List ℕ → List ℕ
moved place phase b = take 6 b ++ (stand_bytes place phase ++ drop 37 b)
