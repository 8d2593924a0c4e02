-- The images that a reader or a writer made by C can have: those of `sdti_reader` and `sdti_writer`, and what any calls leave of them. Lines, rooms, values and lists are any bytes.
-- Assumes nothing.
use Rattle.std.specs.Prelude.{ℕ, ◌≡◌, Bool, true, List, length}
use Rattle.lists.specs.Lists.{each}
use Rattle.line.specs.Settings.{small}
use Rattle.fields.specs.Frame.{image_length}
use Rattle.calls.specs.Making.{makes_reader, makes_writer}
use Rattle.calls.specs.Reading.{reads, reads_within}
use Rattle.calls.specs.Writing.{opens, adds, adds_many, packs, closes}

pub data ReaderImages : List ℕ → Type 0 where
  fresh : (system mode : ℕ) → small system ≡ true → small mode ≡ true → (lent : List ℕ) → length lent ≡ image_length → ReaderImages (makes_reader system mode lent).state
  read : (state : List ℕ) → ReaderImages state → (line room event : List ℕ) → ReaderImages (reads state line room event).state
  read_within : (state : List ℕ) → ReaderImages state → (a : ℕ) (line room event : List ℕ) → ReaderImages (reads_within a state line room event).state

pub data WriterImages : List ℕ → Type 0 where
  fresh : (system mode : ℕ) → small system ≡ true → small mode ≡ true → (lent : List ℕ) → length lent ≡ image_length → WriterImages (makes_writer system mode lent).state
  opened : (state : List ℕ) → WriterImages state → (f v : Bool) (number : ℕ) (settings line : List ℕ) → each small settings ≡ true → WriterImages (opens state f v number settings line).state
  added : (state : List ℕ) → WriterImages state → (kind : ℕ) (values line : List ℕ) → WriterImages (adds state kind values line).state
  added_many : (state : List ℕ) → WriterImages state → (blocks line : List ℕ) (finished : ℕ) → WriterImages (adds_many state blocks line finished).state
  packed : (state : List ℕ) → WriterImages state → (did second : ℕ) (values line : List ℕ) → WriterImages (packs state did second values line).state
  closed : (state : List ℕ) → WriterImages state → (line : List ℕ) → WriterImages (closes state line).state
