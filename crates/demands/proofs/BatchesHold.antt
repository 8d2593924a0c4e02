-- Many blocks in one call, proved: the statement is specs/Batches.antt. Of a list: by its entries, one after another, beside the desk. Of a course: the
-- state and the words of the line are the desk's.
-- Assumes nothing.
use Prim.Native.Nat.{ℕ, suc, ◌+◌}
use mathlib.Core.Bool.{Bool, true, false}
use mathlib.Core.List.{List, [], ◌∷◌, ◌++◌, map, map-append, append-nil, append_assoc}
use mathlib.Core.Path.{◌≡◌, refl, sym, ap, ap₂, ◌∙◌, subst}
use native.Mathlib.Omega.{arith}
use lib.Dec.{eqb}
use lib.ListN.{length, length-append}
use lib.Seq.{take-append_seam, drop-append_seam}
use borrow.Author.Tests.{le-leb, lt-leb}
use Rattle.lists.specs.Tests.{pick}
use Rattle.lists.proofs.Tests.{pick_true, pick_false}
use Rattle.writer.specs.declared.state.Writer.{Writer}
use Rattle.writer.specs.declared.state.Answer.{Answer}
use Rattle.writer.specs.declared.state.Answer.TheVariants.{Refused, Done}
use Rattle.writer.specs.declared.state.Laid.{Laid}
use Rattle.writer.specs.declared.state.Laid.TheVariants.{Refused as NotLaid, Finished, Unfinished}
use Rattle.writer.specs.declared.batch.Stop.TheVariants.{Refused as Stopped}
use Rattle.writer.specs.Answers.{Added}
use Rattle.writer.specs.Opening.{opening}
use Rattle.writer.specs.Adding.{adding}
use Rattle.writer.specs.Packing.{packing}
use Rattle.writer.specs.Closing.{closing}
use Rattle.writer.specs.Batch.{Entry, whole, broken, entries_of, batched, behind, lay_all, batch_fault, batching}
use Rattle.writer.proofs.BatchLaws.{entries_none, entries_one, entries_more}
use Rattle.demands.specs.Sending.{Call, opens, adds, packs, closes, Block, Sent, Desk, start, opened_by, added_by, packs_by, closed_by as desk_closed, sends_by, after, sends, sent_by, sent_fresh}
use Rattle.demands.specs.Damage.{Fate, kept, removed, replaced, remain}
use Rattle.demands.specs.Hearing.{Reads}
use Rattle.demands.specs.Running.{desk_after}
use Rattle.demands.specs.Batches.{list_words, entry_of, Stump, one_word, short_of, onward, singly, batch_calls, one_if, finished_on, Leaves, Mixed, single, many, Now, now, line_by, done_by, closed_by, closes_by, lines_by, spelled_by, spelled, lines_fresh, spelled_fresh, remaining, Batches}
use Rattle.reader.specs.State as reader
use Rattle.demands.proofs.Demand2Holds.{demand_2}
use Rattle.demands.proofs.Demand3Holds.{demand_3}

-- ---- the entries of a list
block_first : (b : Block) (ws : List ℕ) → entries_of (b.kind ∷ length b.values ∷ (b.values ++ ws)) ≡ entry_of b ∷ entries_of ws
block_first b ws =
    let vs = b.values in
    let long = length-append vs ws in
    entries_more b.kind (length vs) (vs ++ ws)
    ∙ pick_true _ (broken ∷ []) (le-leb (length vs) (length (vs ++ ws)) (omega (arith, long)))
    ∙ ap₂ (λ (l r : List ℕ). whole b.kind l ∷ entries_of r) (take-append_seam vs ws) (drop-append_seam vs ws)

listed_by : (bs : List Block) → entries_of (list_words bs) ≡ map entry_of bs
listed_by [] = entries_none
listed_by (b ∷ bs) = block_first b (list_words bs) ∙ ap (λ (es : List Entry). entry_of b ∷ es) (listed_by bs)

stump_by : (ws : List ℕ) → Stump ws → entries_of ws ≡ broken ∷ []
stump_by _ (one_word kind) = entries_one kind
stump_by _ (short_of kind n ws h) = entries_more kind n ws ∙ pick_false _ (broken ∷ []) (lt-leb n (length ws) h)

broken_by : (bs : List Block) (ws : List ℕ) → Stump ws → entries_of (list_words bs ++ ws) ≡ map entry_of bs ++ (broken ∷ [])
broken_by [] ws s = stump_by ws s
broken_by (b ∷ bs) ws s =
    ap (λ (l : List ℕ). entries_of (b.kind ∷ length b.values ∷ l)) (append_assoc b.values (list_words bs) ws)
    ∙ block_first b (list_words bs ++ ws)
    ∙ ap (λ (es : List Entry). entry_of b ∷ es) (broken_by bs ws s)

-- ---- a list beside the desk, entry by entry
-- behind an addition, whatever it answers; `ih`: behind the entries after it
answered : (d : Desk) (kind : ℕ) (vs : List ℕ) (es : List Entry) (done : ℕ) (x : Added) (a : Laid)
    → ((e : Desk) (n : ℕ) → Leaves (desk_after e (singly e.writer e.now.words es)) (n + finished_on e (singly e.writer e.now.words es)) (lay_all e.writer e.now.words n es))
    → Leaves (desk_after (added_by a x d kind vs) (onward a (singly x.state x.line es)))
    (done + (one_if a + finished_on (added_by a x d kind vs) (onward a (singly x.state x.line es)))) (behind a x done (lay_all x.state x.line (suc done) es))
unfolding desk_after finished_on
answered d kind vs es done x (NotLaid k) ih = record { state = refl; line = refl; count = omega arith }
answered d kind vs es done x Unfinished ih = record { state = refl; line = refl; count = omega arith }
answered d kind vs es done x Finished ih =
    let y = ih (added_by Finished x d kind vs) (suc done) in
    record { state = y.state; line = y.line; count = omega (arith, y.count) }

lays : (es : List Entry) (d : Desk) (done : ℕ)
    → Leaves (desk_after d (singly d.writer d.now.words es)) (done + finished_on d (singly d.writer d.now.words es)) (lay_all d.writer d.now.words done es)
unfolding desk_after finished_on after singly lay_all
lays [] d done = record { state = refl; line = refl; count = omega arith }
lays (broken ∷ es) d done = record { state = refl; line = refl; count = omega arith }
lays (whole kind vs ∷ es) d done =
    let x = adding d.writer d.now.words kind vs in
    answered d kind vs es done x x.answer (λ e n. lays es e n)

-- 1 or 2, or the entries
by_fault : (d : Desk) (es : List Entry) (fault : ℕ) (b : Bool)
    → Leaves (desk_after d (pick b (singly d.writer d.now.words es) [])) (finished_on d (pick b (singly d.writer d.now.words es) []))
    (pick b (lay_all d.writer d.now.words 0 es) (batched 0 (Stopped fault) d.writer d.now.words))
unfolding desk_after finished_on pick
by_fault d es fault true = let y = lays es d 0 in record { state = y.state; line = y.line; count = omega (arith, y.count) }
by_fault d es fault false = record { state = refl; line = refl; count = refl }

singles : (d : Desk) (blocks : List ℕ) →
    let cs = batch_calls d.writer d.now.words blocks in
    Leaves (desk_after d cs) (finished_on d cs) (batching d.writer d.now.words blocks)
unfolding batch_calls batching
singles d blocks = let fault = batch_fault d.writer (length d.now.words) in by_fault d (entries_of blocks) fault (eqb fault 0)

-- ---- courses
sent_append : (cs ds : List Call) (d : Desk) → sent_by d (cs ++ ds) ≡ sent_by d cs ++ sent_by (desk_after d cs) ds
unfolding sent_by desk_after
sent_append [] ds d = refl
sent_append (c ∷ cs) ds d = ap (λ (l : List Sent). sends d c ++ l) (sent_append cs ds (after d c)) ∙ sym (append_assoc (sends d c) (sent_by (after d c) cs) (sent_by (desk_after (after d c) cs) ds))

-- additions close no line
onward_none : (a : Laid) (cs : List Call) → ((d : Desk) → sent_by d cs ≡ []) → (d : Desk) → sent_by d (onward a cs) ≡ []
unfolding sent_by
onward_none (NotLaid k) cs h d = refl
onward_none Unfinished cs h d = refl
onward_none Finished cs h d = h d

none_closed : (es : List Entry) (w : Writer) (line : List ℕ) (d : Desk) → sent_by d (singly w line es) ≡ []
unfolding sent_by sends singly
none_closed [] w line d = refl
none_closed (broken ∷ es) w line d = refl
none_closed (whole kind vs ∷ es) w line d =
    let x = adding w line kind vs in
    onward_none x.answer (singly x.state x.line es) (λ e. none_closed es x.state x.line e) (after d (adds kind vs))

none_by : (es : List Entry) (w : Writer) (line : List ℕ) (d : Desk) (b : Bool) → sent_by d (pick b (singly w line es) []) ≡ []
unfolding sent_by pick
none_by es w line d true = none_closed es w line d
none_by es w line d false = refl

-- what a course has of the desk
abbrev now_of : Desk → Now
now_of d = now d.writer d.now.words

module _ (d : Desk) where
  -- the desk behind a call
  single_now : (c : Call) → done_by (now_of d) (single c) ≡ now_of (after d c)
  unfolding done_by after
  single_now (opens f v n t held lent) = go (opening d.writer f v n t lent).answer
    where
      go : (a : Answer) → now (opening d.writer f v n t lent).state (line_by a (opening d.writer f v n t lent).line d.now.words)
          ≡ now_of (opened_by a (opening d.writer f v n t lent) d f v n t)
      go (Refused k) = refl
      go Done = refl
  single_now (adds kind vs) = go (adding d.writer d.now.words kind vs).answer
    where
      go : (a : Laid) → now (adding d.writer d.now.words kind vs).state (adding d.writer d.now.words kind vs).line
          ≡ now_of (added_by a (adding d.writer d.now.words kind vs) d kind vs)
      go (NotLaid k) = refl
      go Finished = refl
      go Unfinished = refl
  single_now (packs did second p q vs) = go (packing d.writer d.now.words did second vs).answer
    where
      go : (a : Answer) → now (packing d.writer d.now.words did second vs).state (packing d.writer d.now.words did second vs).line
          ≡ now_of (packs_by a (packing d.writer d.now.words did second vs) d (record { did = did; second = second; values = vs }))
      go (Refused k) = refl
      go Done = refl
  single_now closes = go (closing d.writer d.now.words).answer
    where
      go : (a : Answer) → now (closing d.writer d.now.words).state (closing d.writer d.now.words).line
          ≡ now_of (desk_closed a (closing d.writer d.now.words) d)
      go (Refused k) = refl
      go Done = refl

  -- and the lines that it closes
  single_lines : (c : Call) → closes_by (now_of d) (single c) ≡ map (λ (s : Sent). s.words) (sends d c)
  unfolding closes_by sends
  single_lines (opens f v n t held lent) = refl
  single_lines (adds kind vs) = refl
  single_lines (packs did second p q vs) = refl
  single_lines closes = go (closing d.writer d.now.words).answer
    where
      go : (a : Answer) → closed_by a (closing d.writer d.now.words).line ≡ map (λ (s : Sent). s.words) (sends_by a (closing d.writer d.now.words) d)
      go (Refused k) = refl
      go Done = refl

  many_now : (blocks : List ℕ) → done_by (now_of d) (many blocks) ≡ now_of (desk_after d (batch_calls d.writer d.now.words blocks))
  unfolding done_by
  many_now blocks = let y = singles d blocks in ap₂ now (sym y.state) (sym y.line)

  many_lines : (blocks : List ℕ) → closes_by (now_of d) (many blocks) ≡ map (λ (s : Sent). s.words) (sent_by d (batch_calls d.writer d.now.words blocks))
  unfolding closes_by batch_calls
  many_lines blocks =
      ap (map (λ (s : Sent). s.words)) (sym (none_by (entries_of blocks) d.writer d.now.words d (eqb (batch_fault d.writer (length d.now.words)) 0)))

  done_now : (c : Mixed) → done_by (now_of d) c ≡ now_of (desk_after d (spelled_by (now_of d) c))
  unfolding desk_after
  done_now (single c) = single_now c
  done_now (many blocks) = many_now blocks

  closed_lines : (c : Mixed) → closes_by (now_of d) c ≡ map (λ (s : Sent). s.words) (sent_by d (spelled_by (now_of d) c))
  unfolding sent_by
  closed_lines (single c) = single_lines c ∙ ap (map (λ (s : Sent). s.words)) (sym (append-nil (sends d c)))
  closed_lines (many blocks) = many_lines blocks

mixed_lines : (cs : List Mixed) (d : Desk) → lines_by (now_of d) cs ≡ map (λ (s : Sent). s.words) (sent_by d (spelled (now_of d) cs))
unfolding lines_by spelled sent_by
mixed_lines [] d = refl
mixed_lines (c ∷ cs) d =
    let first = spelled_by (now_of d) c in
    let d' = desk_after d first in
    let e = done_now d c in
    ap₂ {B = List (List ℕ)} ◌++◌ (closed_lines d c) (ap (λ (m : Now). lines_by m cs) e ∙ mixed_lines cs d')
    ∙ sym (map-append (λ (s : Sent). s.words) (sent_by d first) (sent_by d' (spelled (now_of d') cs)))
    ∙ ap (map (λ (s : Sent). s.words)) (sym (sent_append first (spelled (now_of d') cs) d))
    ∙ ap (λ (m : Now). map (λ (s : Sent). s.words) (sent_by d (first ++ spelled m cs))) (sym e)

fresh_lines : (system mode : ℕ) (cs : List Mixed) → lines_fresh system mode cs ≡ map (λ (s : Sent). s.words) (sent_fresh system mode (spelled_fresh system mode cs))
fresh_lines system mode cs = mixed_lines cs (start system mode)

-- ---- what remains of lines goes by their words
remains : (fs : List Fate) (ss : List Sent) → remain fs ss ≡ remaining fs (map (λ (s : Sent). s.words) ss)
remains [] ss = refl
remains (f ∷ fs) [] = refl
remains (kept ∷ fs) (s ∷ ss) = ap (λ (l : List (List ℕ)). s.words ∷ l) (remains fs ss)
remains (removed ∷ fs) (s ∷ ss) = remains fs ss
remains (replaced ws ∷ fs) (s ∷ ss) = ap (λ (l : List (List ℕ)). ws ∷ l) (remains fs ss)

pub batches : Batches
batches = record {
  listed = listed_by;
  broken_off = broken_by;
  as_single = singles;
  lines = fresh_lines;
  exact = λ system mode cs. demand_2.lines system mode (spelled_fresh system mode cs);
  heard = λ system mode cs room long hs r.
      demand_2.heard system mode (spelled_fresh system mode cs) room long hs
      (subst (λ (ls : List (List ℕ)). Reads (reader.fresh system mode) room ls hs) (fresh_lines system mode cs) r);
  handed = λ system mode cs fs t room long hs r.
      demand_3.handed system mode (spelled_fresh system mode cs) fs t room long hs
      (subst (λ (ls : List (List ℕ)). Reads (reader.fresh system mode) room ls hs)
      (ap (remaining fs) (fresh_lines system mode cs) ∙ sym (remains fs (sent_fresh system mode (spelled_fresh system mode cs)))) r);
}
