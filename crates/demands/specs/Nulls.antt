-- NULLS. 02, Item 2: decks of the 2001 edition send 100h as a type word. It marks a null.
-- First what our writer never lays. Then what a null is for a reading call: an open phase, until it ends and is not handed out. That the reader
-- hands out no null is said by its contract (`reading`, by the machine's step): our writer lays none, so that demands 2 and 3 meet none.
-- Assumes nothing.
use Rattle.std.specs.Prelude.{ℕ, ◌+◌, ◌≤◌, Bool, true, false, ◌&&◌, not, List, [], ◌∷◌, ◌++◌, map, ◌⊎◌, ◌≡◌, eqb, ltb, length, get_or, take, drop, Some, None}
use Rattle.lists.specs.Tests.{pick}
use Rattle.lists.specs.Lists.{part, each}
use Rattle.words.specs.Modes.{value_of}
use Rattle.words.specs.Class.{class_of, separator, end_code, null_word, is_code}
use Rattle.line.specs.Systems.{system_of}
use Rattle.line.specs.Fixed.{is_variable}
use Rattle.line.specs.Check.{number_of, settings_of, line_fault}
use Rattle.writer.specs.declared.state.Writer.{Writer}
use Rattle.writer.specs.State.{most}
use Rattle.writer.specs.Block.{count_words, words_in}
use Rattle.writer.specs.Answers.{laid_numbers}
use Rattle.writer.specs.Adding.{todo, adding}
use Rattle.writer.specs.Filling.{piece_of}
use Rattle.machine.specs.declared.phase.Mark.TheVariants.{Typed}
use Rattle.machine.specs.declared.phase.Phase.{Phase}
use Rattle.machine.specs.declared.phase.Phase.TheVariants.{Idle, Kind, First, Second, Third, Fourth, Data}
use Rattle.machine.specs.declared.step.Met.TheVariants.{Nothing}
use Rattle.machine.specs.Phases.{phase_numbers, is_busy}
use Rattle.machine.specs.Walk.{walked_to, past, walk_of}
use Rattle.machine.specs.Places.{walk_places}
use Rattle.reader.specs.declared.state.Reader.{Reader}
use Rattle.reader.specs.declared.state.Event.TheVariants.{Refused, Begun, End}
use Rattle.reader.specs.Jump.{jump_from}
use Rattle.reader.specs.State.{impossible}
use Rattle.reader.specs.Reading.{reply, becomes, goes_on, walk_from, read_fault, reading}

-- ---- what the writer lays
-- not 100h
abbrev pub is_some : ℕ → Bool
is_some w = not (eqb w null_word)

-- the type word and the count words of a block: of a variable one its words 1 to 5, of a fixed one the first
abbrev pub head_in : ℕ → List ℕ → List ℕ
head_in block ws = pick (is_variable block) (part 1 5 ws) (take 1 ws)

-- what an addition laid is a part of the block's words, from those laid before on; neither their type word nor a count word is 100h, in either
-- mode; and in 8-bit mode no word laid is
pub record NeverNull (w : Writer) (line : List ℕ) (kind : ℕ) (vs : List ℕ) : Type 0 where
  pub a_part : piece_of w line kind vs ≡ take (length (piece_of w line kind vs)) (todo w kind vs)
  pub head : each is_some (head_in w.settings.block (words_in w.settings.block w.mode kind vs)) ≡ true
  pub all : w.mode ≡ 8 → each is_some (piece_of w line kind vs) ≡ true

-- ---- a null
-- the phases of a null are those numbered 4 and 5
abbrev pub in_null : Phase → Bool
in_null p = ltb 3 (get_or (phase_numbers p) 0 0)

-- the phase with a type in the mark's stead
abbrev pub typed_as : ℕ → Phase → Phase
typed_as k Idle = Idle
typed_as k Kind = Kind
typed_as k (First x) = First (Typed k)
typed_as k (Second x a) = Second (Typed k) a
typed_as k (Third x a b) = Third (Typed k) a b
typed_as k (Fourth x a b c) = Fourth (Typed k) a b c
typed_as k (Data x n m) = Data (Typed k) n m

-- a null of that count and those data words
abbrev pub null_with : ℕ → List ℕ → List ℕ
null_with n ds = separator ∷ null_word ∷ count_words n ++ (ds ++ (end_code ∷ []))

-- a data word with a value: neither 309h nor 30Ah, nor in 8-bit mode 100h
abbrev pub is_datum : ℕ → ℕ → Bool
is_datum mode w = not (is_code (class_of w)) && not (eqb mode 8 && eqb w null_word)

pub record Nulls : Type 0 where
  -- every accepted addition, finished or not: of any writer in any state, any line, any block
  pub never_null : (w : Writer) (line : List ℕ) (kind : ℕ) (vs : List ℕ) (done : ℕ) → laid_numbers (adding w line kind vs).answer ≡ 0 ∷ done ∷ [] → NeverNull w line kind vs
  -- a null is an open phase, and possible exactly where a block with a type is
  pub is_open : (p : Phase) → in_null p ≡ true → is_busy p ≡ true
  pub possible : (st : Reader) (k : ℕ) → impossible st ≡ impossible (becomes st st.last st.settings st.place (typed_as k st.phase))
  -- a refused line drops it, and says so
  pub refused_drops : (st : Reader) (line room : List ℕ) → read_fault st (length line) (length room) ≡ 0 → st.place ≡ None → in_null st.phase ≡ true
      → (k : ℕ) → line_fault st.system st.mode line ≡ k → 1 ≤ k
      → reading st line room ≡ reply (record { event = Refused k true; state = becomes st None st.settings None Idle }) room
  -- a line with a jump or with changed settings drops it, and says so; the next line with equal settings goes on with it
  pub begun_drops : (st : Reader) (line room : List ℕ) → read_fault st (length line) (length room) ≡ 0 → st.place ≡ None → in_null st.phase ≡ true
      → line_fault st.system st.mode line ≡ 0 → goes_on st (number_of line) (settings_of line) ≡ false
      → reading st line room ≡ reply (record {
        event = Begun (number_of line) (jump_from (system_of st.system).lines st.last (number_of line)) true;
        state = becomes st (Some (number_of line)) (settings_of line) (Some 0) Idle;
      }) room
  pub begun_keeps : (st : Reader) (line room : List ℕ) → read_fault st (length line) (length room) ≡ 0 → st.place ≡ None → in_null st.phase ≡ true
      → line_fault st.system st.mode line ≡ 0 → goes_on st (number_of line) (settings_of line) ≡ true
      → reading st line room ≡ reply (record {
        event = Begun (number_of line) (jump_from (system_of st.system).lines st.last (number_of line)) false;
        state = becomes st (Some (number_of line)) (settings_of line) (Some 0) st.phase;
      }) room
  -- the line's end leaves it open
  pub end_keeps : (st : Reader) (q : ℕ) (line room : List ℕ) → read_fault st (length line) (length room) ≡ 0 → st.place ≡ Some q
      → (p : Phase) (n : ℕ) (r : List ℕ) → in_null p ≡ true → walk_from st q line room ≡ walked_to p Nothing n r
      → reading st line room ≡ reply (record { event = End; state = becomes st st.last st.settings None p }) r
  -- a whole null reports nothing: the walk is that behind it, with its values in the room. Its count is 0 or met; any words may follow.
  pub not_handed_out : (mode n : ℕ) (ds ws room : List ℕ) → (n ≡ 0) ⊎ (n ≡ length ds) → n ≤ most → length ds ≤ length room → each (is_datum mode) ds ≡ true
      → walk_of mode Idle (null_with n ds ++ ws) room ≡ past (length ds + 7) (walk_of mode Idle ws (map (value_of mode) ds ++ drop (length ds) room))
  -- a null's place is skipped, whatever its data
  pub place_skipped : (mode : ℕ) (p : Phase) (data_words : List ℕ) (xs : List (List ℕ)) (room : List ℕ)
      → walk_places mode p ((null_word ∷ data_words) ∷ xs) room ≡ past (length data_words + 1) (walk_places mode p xs room)
