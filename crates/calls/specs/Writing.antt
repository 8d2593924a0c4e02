-- The writer's calls from C: the writer's call on the state that the image gives. After 1 and 2 no byte of any buffer is changed; after any other refusal the call leaves line and
-- state as they were.
-- Assumes nothing.
use Rattle.std.specs.Prelude.{ℕ, Bool, ◌&&◌, List, eqb, length}
use Rattle.lists.specs.Tests.{pick}
use Rattle.fields.specs.Fields.{settings_from}
use Rattle.fields.specs.Frame.{image_length}
use Rattle.writerimages.specs.WriterImage.{image_of, state_of, is_image}
use Rattle.bytewriter.specs.Bytewise.{open_bytes, add_bytes, many_bytes, pack_bytes, close_bytes}
use Rattle.calls.specs.Answers.{done_answer, laid_answer, stop_answer, refusal, sixteen}

-- the answer, and the bytes lent for state and line
pub record Wrote : Type 0 where
  pub answer : ℕ
  pub state : List ℕ
  pub line : List ℕ

abbrev pub wrote : ℕ → List ℕ → List ℕ → Wrote
wrote n s l = record { answer = n; state = s; line = l }

-- code, AAI, addresses, block type, flag and reserved, as in a state
abbrev pub settings_length : ℕ
settings_length = 41

unfoldable pub opens : List ℕ → Bool → Bool → ℕ → List ℕ → List ℕ → Wrote
opens state f v number settings line =
    let x = open_bytes (state_of state) f v (sixteen number) (settings_from settings) line in
    let n = done_answer x.answer in
    let early = refusal (eqb (length state) image_length && eqb (length settings) settings_length) (is_image state) n in
    pick (eqb early 0) (wrote n (image_of x.state) x.line) (wrote early state line)

unfoldable pub adds : List ℕ → ℕ → List ℕ → List ℕ → Wrote
adds state kind values line =
    let x = add_bytes (state_of state) line (sixteen kind) values in
    let n = laid_answer x.answer in
    let early = refusal (eqb (length state) image_length) (is_image state) n in
    pick (eqb early 0) (wrote n (image_of x.state) x.line) (wrote early state line)

unfoldable pub packs : List ℕ → ℕ → ℕ → List ℕ → List ℕ → Wrote
packs state did second values line =
    let x = pack_bytes (state_of state) line did second values in
    let n = done_answer x.answer in
    let early = refusal (eqb (length state) image_length) (is_image state) n in
    pick (eqb early 0) (wrote n (image_of x.state) x.line) (wrote early state line)

unfoldable pub closes : List ℕ → List ℕ → Wrote
closes state line =
    let x = close_bytes (state_of state) line in
    let n = done_answer x.answer in
    let early = refusal (eqb (length state) image_length) (is_image state) n in
    pick (eqb early 0) (wrote n (image_of x.state) x.line) (wrote early state line)

-- many blocks: how many were finished goes into a number of its own, which 1 and 2 leave too
pub record WroteMany : Type 0 where
  pub answer : ℕ
  pub state : List ℕ
  pub line : List ℕ
  pub finished : ℕ

abbrev pub wrote_many : ℕ → List ℕ → List ℕ → ℕ → WroteMany
wrote_many n s l k = record { answer = n; state = s; line = l; finished = k }

unfoldable pub adds_many : List ℕ → List ℕ → List ℕ → ℕ → WroteMany
adds_many state blocks line finished =
    let x = many_bytes (state_of state) line blocks in
    let n = stop_answer x.stop in
    let early = refusal (eqb (length state) image_length) (is_image state) n in
    pick (eqb early 0) (wrote_many n (image_of x.state) x.line x.finished) (wrote_many early state line finished)
