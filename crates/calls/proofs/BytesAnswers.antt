-- The answers of the library's calls on bytes, by their 1 and 2: an odd buffer is 1, and else the call is that on the words. Assumes nothing.
use Prim.Native.Nat.{ℕ, ◌/◌}
use mathlib.Core.Bool.{Bool, true, false, ◌&&◌}
use mathlib.Core.List.{List}
use mathlib.Core.Path.{◌≡◌, refl, sym, subst}
use native.Mathlib.Omega.{arith}
use lib.ListN.{length}
use Rattle.lists.specs.Tests.{pick}
use Rattle.octets.specs.Bytes.{words_of, is_even}
use Rattle.octets.proofs.BytesLaws.{length_words}
use Rattle.line.specs.declared.settings.Settings.{Settings}
use Rattle.reader.specs.declared.state.Reader.{Reader}
use Rattle.reader.specs.Reading.{read_fault}
use Rattle.reader.specs.Within.{Sliced}
use Rattle.writer.specs.declared.state.Writer.{Writer}
use Rattle.writer.specs.Answers.{Left, Added}
use Rattle.writer.specs.Batch.{Batched, batch_fault}
use Rattle.bytereader.specs.Bytewise.{within_bytes, bytes_fault}
use Rattle.bytewriter.specs.Bytewise.{open_bytes, add_bytes, many_bytes, pack_bytes, close_bytes}
use Rattle.calls.specs.Answers.{report_answer, done_answer, laid_answer, stop_answer}
use Rattle.calls.specs.Early.{write_early}
use Rattle.calls.proofs.AnswerLaws.{AnswersBy, within_answers, open_answers, add_answers, many_answers, pack_answers, close_answers}

-- what is told of an odd buffer, y, answers 1
by_bytes : {X : Type 0} (answer : X → ℕ) (even : Bool) (f : ℕ) (x y : X) → answer y ≡ 1 → AnswersBy f (answer x) → AnswersBy (pick even f 1) (answer (pick even x y))
unfolding pick
by_bytes answer true f x y one a = a
by_bytes answer false f x y one a = record { few = omega arith; refused = λ h. one; goes = λ e. absurd (omega (arith, e)) }

-- ---- reading
module _ (st : Reader) (line room : List ℕ) where
  -- by the numbers of bytes
  read_long : (n : ℕ) → AnswersBy (read_fault st (length (words_of line)) (length (words_of room))) n → AnswersBy (read_fault st (length line / 2) (length room / 2)) n
  read_long n a =
      subst (λ (k : ℕ). AnswersBy (read_fault st k (length room / 2)) n) (length_words line)
      (subst (λ (k : ℕ). AnswersBy (read_fault st (length (words_of line)) k) n) (length_words room) a)

  pub within_bytes_answers : (a : ℕ) → AnswersBy (bytes_fault st (length line) (length room)) (report_answer (within_bytes a st line room).answer.report)
  unfolding bytes_fault within_bytes
  within_bytes_answers a =
      by_bytes (λ (x : Sliced). report_answer x.answer.report) (is_even line && is_even room) _ _ _ refl (read_long _ (within_answers a st (words_of line) (words_of room)))

-- ---- the writer's calls
with_true : (b : Bool) → (b && true) ≡ b
with_true true = refl
with_true false = refl

module _ (w : Writer) (line : List ℕ) where
  write_long : (n : ℕ) → AnswersBy (batch_fault w (length (words_of line))) n → AnswersBy (batch_fault w (length line / 2)) n
  write_long n a = subst (λ (k : ℕ). AnswersBy (batch_fault w k) n) (length_words line) a

  -- beside the line nothing is lent as words
  alone : (n : ℕ) → AnswersBy (pick (is_even line) (batch_fault w (length line / 2)) 1) n → AnswersBy (write_early w (length line) true) n
  unfolding write_early
  alone n a = subst (λ (b : Bool). AnswersBy (pick b (batch_fault w (length line / 2)) 1) n) (sym (with_true (is_even line))) a

  pub open_bytes_answers : (f v : Bool) (n : ℕ) (t : Settings) → AnswersBy (write_early w (length line) true) (done_answer (open_bytes w f v n t line).answer)
  unfolding open_bytes
  open_bytes_answers f v n t = alone _ (by_bytes (λ (x : Left). done_answer x.answer) (is_even line) _ _ _ refl (write_long _ (open_answers w (words_of line) f v n t)))

  pub close_bytes_answers : AnswersBy (write_early w (length line) true) (done_answer (close_bytes w line).answer)
  unfolding close_bytes
  close_bytes_answers = alone _ (by_bytes (λ (x : Left). done_answer x.answer) (is_even line) _ _ _ refl (write_long _ (close_answers w (words_of line))))

  pub pack_bytes_answers : (did second : ℕ) (values : List ℕ) → AnswersBy (write_early w (length line) (is_even values)) (done_answer (pack_bytes w line did second values).answer)
  unfolding write_early pack_bytes
  pack_bytes_answers did second values =
      by_bytes (λ (x : Left). done_answer x.answer) (is_even line && is_even values) _ _ _ refl (write_long _ (pack_answers w (words_of line) did second (words_of values)))

  pub add_bytes_answers : (kind : ℕ) (values : List ℕ) → AnswersBy (write_early w (length line) (is_even values)) (laid_answer (add_bytes w line kind values).answer)
  unfolding write_early add_bytes
  add_bytes_answers kind values =
      by_bytes (λ (x : Added). laid_answer x.answer) (is_even line && is_even values) _ _ _ refl (write_long _ (add_answers w (words_of line) kind (words_of values)))

  pub many_bytes_answers : (blocks : List ℕ) → AnswersBy (write_early w (length line) (is_even blocks)) (stop_answer (many_bytes w line blocks).stop)
  unfolding write_early many_bytes
  many_bytes_answers blocks =
      by_bytes (λ (x : Batched). stop_answer x.stop) (is_even line && is_even blocks) _ _ _ refl (write_long _ (many_answers w (words_of line) (words_of blocks)))
