-- Blocks that 17 and 18 let pass can be sent: a block is laid on the open line as far as it fits, and the rest of it on the next line. Each
-- accepted addition lays a word at least, so the words left fall; a new line has room for one.
-- Assumes nothing.
use Rattle.std.specs.Prelude.{Option, Some, None}
use Prim.Native.Nat.{ℕ, zero, suc, ◌+◌, ◌-◌, ◌≤◌, ◌<◌, min}
use mathlib.Core.Bool.{Bool, true, false, ◌&&◌, ◌||◌, not}
use mathlib.Core.List.{List, [], ◌∷◌, ◌++◌, map, append-nil, append_assoc, map-append}
use mathlib.Core.Logic.{◌⊎◌, inl, inr, ⊎_elim}
use mathlib.Core.Path.{◌≡◌, refl, sym, ap, ap₂, ◌∙◌, subst}
use native.Mathlib.Omega.{arith}
use lib.ListN.{length, drop, replicate, length-append, length-drop, length-replicate}
use borrow.Author.Tests.{eq-eqb, eqb-false, leb-true}
use Rattle.lists.proofs.Tests.{or_right, and_true}
use Rattle.words.specs.Modes.{is_mode}
use Rattle.line.specs.declared.settings.Settings.{Settings}
use Rattle.line.specs.Systems.{system_of, is_system}
use Rattle.line.specs.Settings.{Held, settings_fault, same_settings}
use Rattle.line.specs.Check.{fits_length}
use Rattle.course.specs.Course.{is_at, place_of, next_number, blocks_end, misplaced}
use Rattle.course.proofs.CourseLaws.{placed_end}
use Rattle.writer.specs.declared.state.Answer.{Answer}
use Rattle.writer.specs.declared.state.Answer.TheVariants.{Done}
use Rattle.writer.specs.declared.state.Laid.{Laid}
use Rattle.writer.specs.declared.state.Laid.TheVariants.{Refused as NotLaid, Finished, Unfinished}
use Rattle.writer.specs.State.{is_part, laid_of, end_in}
use Rattle.writer.specs.Answers.{Left, Added}
use Rattle.writer.specs.Block.{words_in}
use Rattle.writer.specs.Opening.{is_next, open_blocked, opening}
use Rattle.writer.specs.Adding.{valued, ill_shaped, is_full, is_other, add_fault, todo, fitting, adding}
use Rattle.writer.specs.Closing.{closing}
use Rattle.packets.specs.Packet.{packed}
use Rattle.writer.specs.Filling.{joined}
use Rattle.writer.proofs.Keeps.{open_leaves, close_leaves, add_leaves}
use Rattle.writer.proofs.Refusals.{begun, can_add}
use Rattle.writer.proofs.Pieces.{some_left, rest_left}
use Rattle.demands.specs.All.{All}
use Rattle.demands.specs.Sending.{Call, opens, adds, closes, Block, Complete, Sent, Desk, start, with, piece_now, complete_now, values_now, opened_by, added_by, closed_by, sends_by, after, sends, sent_by, sent_fresh, blocks_of}
use Rattle.demands.specs.Writable.{Passes, OpenedWith, NumbersFrom, Packed, Writes}
use Rattle.demands.proofs.AllLaws.{all_by}
use Rattle.demands.proofs.FixedLines.{fixed_fresh, on_one}
use Rattle.demands.proofs.DeskOk.{OpenNow, DeskOk}
use Rattle.demands.proofs.DeskCalls.{after_opened, after_finished, after_unfinished, after_closed, refused_fault}
use Rattle.demands.proofs.DeskOpens.{opens_say, opened_ok}
use Rattle.demands.proofs.DeskAdded.{rest_whole, finished_ok, unfinished_ok}
use Rattle.demands.proofs.DeskCloses.{closes_say, closed_ok}
use Rattle.demands.proofs.DeskStart.{start_ok}
use Rattle.demands.proofs.Notices.{next_in}
use Rattle.demands.proofs.AsLent.{as_lent}
use Rattle.demands.proofs.Unrefused.{opens_clear, adds_clear, closes_clear, fits_by, open_long, passes_values, passes_shape, end_some, not_full, same_again}
use Rattle.writer.specs.declared.state.Part.{Part}

-- ---- tests and numbers
and_none : (a b : Bool) → b ≡ false → (a && b) ≡ false
and_none true b e = e
and_none false b e = refl

-- k words were laid, one at least and not all that were left
fewer : (whole j k end p left now : ℕ) → left ≡ whole - j → now ≡ whole - (j + k) → p < end → k ≡ min (end - p) left → (k ≡ left → ⊥) → now < left
fewer whole j k end p left now a b h m n = omega arith

abbrev block_of : Complete → Block
block_of b = b.block

-- the first line has m pieces or more
abbrev HasFirst : ℕ → List Sent → Type 0
HasFirst m [] = ⊥
HasFirst m (s ∷ ss) = m ≤ length s.pieces

has_one : (m : ℕ) (ss : List Sent) → HasFirst m ss → 1 ≤ length ss
has_one m [] h = absurd h
has_one m (s ∷ ss) h = omega arith

has_fewer : (m k : ℕ) (ss : List Sent) → k ≤ m → HasFirst m ss → HasFirst k ss
has_fewer m k [] le h = h
has_fewer m k (s ∷ ss) le h = omega (arith, le, h)

packed_more : (system : ℕ) (s : Sent) (ss : List Sent)
    → length (joined s.pieces) ≡ blocks_end (system_of system).payload s.settings.block s.settings.flag
    → HasFirst 1 ss → Packed system ss → Packed system (s ∷ ss)
packed_more system s [] full h p = absurd h
packed_more system s (r ∷ ss) full h p = (full, (h, p))

module _ (system mode : ℕ) (f v : Bool) (t : Settings) (held : Held t) (known : is_system system ≡ true) (moded : is_mode mode ≡ true)
    (clean : settings_fault system t ≡ 0) where
  abbrev N : ℕ
  N = (system_of system).lines

  -- lines that are as asked from number x on, with these blocks
  record Sends (m x : ℕ) (us : List Block) (ss : List Sent) : Type 0 where
    blocks : map block_of (blocks_of ss) ≡ us
    opened : All (OpenedWith f v t) ss
    numbers : NumbersFrom (system_of system).lines x ss
    packed : Packed system ss
    first : HasFirst m ss

  -- calls on a desk that send such lines
  record Ways (m x : ℕ) (d : Desk) (us : List Block) : Type 0 where
    calls : List Call
    sent : Sends m x us (sent_by d calls)

  with_fewer : (m k x : ℕ) (d : Desk) (us : List Block) → k ≤ m → Ways m x d us → Ways k x d us
  with_fewer m k x d us le y =
      record {
        calls = y.calls;
        sent = record { blocks = y.sent.blocks; opened = y.sent.opened; numbers = y.sent.numbers; packed = y.sent.packed; first = has_fewer m k (sent_by d y.calls) le y.sent.first };
      }

  -- a call before them that sends no line
  before : (m x : ℕ) (d d' : Desk) (c : Call) (us : List Block) → sends d c ≡ [] → after d c ≡ d' → Ways m x d' us → Ways m x d us
  unfolding sent_by
  before m x d d' c us none is y =
      record { calls = c ∷ y.calls; sent = subst (Sends m x us) (sym (ap₂ (λ (l : List Sent) (e : Desk). l ++ sent_by e y.calls) none is)) y.sent }

  -- ---- an open line of number x, opened with these
  record Working (x : ℕ) (d : Desk) : Type 0 where
    ok : DeskOk system mode d
    at : is_at d.writer.place ≡ true
    is_f : d.now.f ≡ f
    is_v : d.now.v ≡ v
    number : d.now.number ≡ x
    settings : d.now.settings ≡ t

  module _ (x : ℕ) (d : Desk) (w : Working x d) where
    now_open : OpenNow system mode d
    now_open = w.ok.opened w.at

    state_settings : d.writer.settings ≡ t
    state_settings = now_open.is_open.of_settings ∙ w.settings

    fits_now : fits_length d.writer.system d.writer.mode (length d.now.words) ≡ true
    fits_now =
        let o = now_open.is_open in
        ap₂ (λ (s m : ℕ). fits_length s m (length d.now.words)) o.of_system o.of_mode
        ∙ fits_by system mode (length d.now.words) known moded
        (open_long system mode d.now.f d.now.v d.now.number d.now.settings (packed d.now.packets) (joined d.now.pieces) d.writer d.now.words now_open.openable.held known o)

    end_now : end_in d.writer ≡ blocks_end (system_of system).payload d.now.settings.block d.now.settings.flag
    end_now =
        ap₂ (λ (s : ℕ) (u : Settings). blocks_end (system_of s).payload u.block u.flag) now_open.is_open.of_system now_open.is_open.of_settings

    -- a full line is filled to where blocks end
    filled_now : is_full (end_in d.writer) d.writer.place ≡ true
        → length (joined d.now.pieces) ≡ blocks_end (system_of system).payload d.now.settings.block d.now.settings.flag
    filled_now full =
        let o = now_open.is_open in
        let n = length (joined d.now.pieces) in
        let b = begun d.writer w.ok.possible (or_right (is_part d.writer.rest) (is_at d.writer.place) w.at) in
        let low = leb-true (end_in d.writer) n (sym (ap (is_full (end_in d.writer)) o.of_place) ∙ full) in
        let high = placed_end (system_of d.writer.system).payload d.writer.settings.block d.writer.settings.flag n
        (sym (ap (misplaced (system_of d.writer.system).payload d.writer.settings.block d.writer.settings.flag) o.of_place) ∙ b.course.placed) in
        omega (arith, low, high, end_now)

    -- ---- closing
    module _ (may : (is_part d.writer.rest && not (is_full (end_in d.writer) d.writer.place)) ≡ false) where
      close_done : (closing d.writer d.now.words).answer ≡ Done
      close_done =
          ap (λ (y : Left). y.answer) (close_leaves d.writer d.now.words (closes_clear d.writer (length d.now.words) fits_now w.ok.possible w.at may))

      abbrev closed : Desk
      closed = closed_by Done (closing d.writer d.now.words) d

      abbrev line : Sent
      line = with d.now d.now.pieces d.now.blocks (closing d.writer d.now.words).line

      sent_line : (cs : List Call) → sent_by d (closes ∷ cs) ≡ line ∷ sent_by closed cs
      unfolding sent_by sends
      sent_line cs = ap₂ (λ (l : List Sent) (e : Desk). l ++ sent_by e cs) (ap (λ (a : Answer). sends_by a (closing d.writer d.now.words) d) close_done) (after_closed d close_done)

      -- the last line
      closes_last : Ways (length d.now.pieces) x d (map block_of d.now.blocks)
      unfolding sent_by
      closes_last =
          record {
            calls = closes ∷ [];
            sent = subst (Sends (length d.now.pieces) x (map block_of d.now.blocks)) (sym (sent_line []))
                (record {
                  blocks = ap (map block_of) (append-nil d.now.blocks);
                  opened = ((w.is_f, (w.is_v, w.settings)), tt);
                  numbers = (w.number, tt);
                  packed = tt;
                  first = omega arith;
                });
          }

      -- a full line, and the lines behind it
      closes_more : is_full (end_in d.writer) d.writer.place ≡ true → (us : List Block) → Ways 1 (next_number N x) closed us
          → Ways (length d.now.pieces) x d (map block_of d.now.blocks ++ us)
      closes_more full us y =
          let ss = sent_by closed y.calls in
          record {
            calls = closes ∷ y.calls;
            sent = subst (Sends (length d.now.pieces) x (map block_of d.now.blocks ++ us)) (sym (sent_line y.calls))
                (record {
                  blocks = map-append block_of d.now.blocks (blocks_of ss) ∙ ap (λ (l : List Block). map block_of d.now.blocks ++ l) y.sent.blocks;
                  opened = ((w.is_f, (w.is_v, w.settings)), y.sent.opened);
                  numbers = (w.number, y.sent.numbers);
                  packed = packed_more system line ss (filled_now full) y.sent.first y.sent.packed;
                  first = omega arith;
                });
          }

      -- ---- the next line opened
      goes_on : open_blocked closed.writer (next_number N x) t ≡ false
      unfolding open_blocked
      goes_on =
          let c = closes_say system mode d w.ok close_done in
          let ok' = closed_ok system mode d w.ok close_done in
          let same : same_settings t closed.writer.settings ≡ true = ap (same_settings t) (c.state_settings ∙ state_settings) ∙ same_again t in
          let next : is_next (system_of closed.writer.system).lines closed.writer.last (next_number N x) ≡ true =
          ap₂ (λ (s : ℕ) (l : Option ℕ). is_next (system_of s).lines l (next_number N x)) ok'.of_system (c.state_last ∙ c.last_is ∙ ap Some w.number)
          ∙ eq-eqb (next_number N x) (next_number N x) refl in
          ap₂ (λ (a b : Bool). a || b) (ap is_at c.state_place) (and_none (is_part closed.writer.rest) _ (ap₂ (λ (a b : Bool). not a || not b) same next))

  -- ---- opening
  abbrev lent : List ℕ
  lent = replicate (system_of system).length 0

  module _ (d : Desk) (x : ℕ) (ok : DeskOk system mode d) (one : 1 ≤ x) (last : x ≤ (system_of system).lines) (free : open_blocked d.writer x t ≡ false) where
    open_done : (opening d.writer f v x t lent).answer ≡ Done
    open_done =
        let fit : fits_length d.writer.system d.writer.mode (length lent) ≡ true =
        ap₂ (λ (s m : ℕ). fits_length s m (length lent)) ok.of_system ok.owes.of_mode
        ∙ fits_by system mode (length lent) known moded (length-replicate {A = ℕ} (system_of system).length 0) in
        ap (λ (y : Left). y.answer)
        (open_leaves d.writer f v x t lent
        (opens_clear d.writer x t (length lent) fit ok.possible one
        (subst (λ (s : ℕ). x ≤ (system_of s).lines) (sym ok.of_system) last) (ap (λ (s : ℕ). settings_fault s t) ok.of_system ∙ clean) free))

    abbrev opened_desk : Desk
    opened_desk = opened_by Done (opening d.writer f v x t lent) d f v x t

    working : Working x opened_desk
    working = record {
      ok = opened_ok system mode d f v x t lent held ok open_done;
      at = ap is_at (opens_say system mode d f v x t lent ok open_done).place;
      is_f = refl;
      is_v = refl;
      number = refl;
      settings = refl;
    }

  -- an opening before them
  opens_first : (m x : ℕ) (d d' : Desk) (us : List Block) → (opening d.writer f v x t lent).answer ≡ Done → opened_by Done (opening d.writer f v x t lent) d f v x t ≡ d'
      → Ways m x d' us → Ways m x d us
  unfolding sends
  opens_first m x d d' us done is y = before m x d d' (opens f v x t held lent) us refl (after_opened d f v x t held lent done ∙ is) y

  -- ---- the next line: a full one closed, and another opened, on which nothing is laid yet
  record Next (x : ℕ) (d : Desk) : Type 0 where
    desk : Desk
    works : Working (next_number N x) desk
    place : desk.writer.place ≡ Some 0
    rest : desk.writer.rest ≡ d.writer.rest
    values : desk.values ≡ d.values
    none : desk.now.blocks ≡ []
    empty : desk.now.pieces ≡ []
    ways : (us : List Block) → Ways 1 (next_number N x) desk us → Ways (length d.now.pieces) x d (map block_of d.now.blocks ++ us)

  next_line : (x : ℕ) (d : Desk) → Working x d → is_full (end_in d.writer) d.writer.place ≡ true → Next x d
  next_line x d w full =
      let may = and_none (is_part d.writer.rest) _ (ap not full) in
      let c = closed x d w may in
      let done = close_done x d w may in
      let ok = closed_ok system mode d w.ok done in
      let n = next_number N x in
      let o = (now_open x d w).openable in
      let range = next_in N x (omega (arith, o.one, o.most_lines)) in
      let free = goes_on x d w may in
      let say = opens_say system mode c f v n t lent ok (open_done c n ok range.0 range.1 free) in
      record {
        desk = opened_desk c n ok range.0 range.1 free;
        works = working c n ok range.0 range.1 free;
        place = say.place;
        rest = say.rest ∙ (closes_say system mode d w.ok done).state_rest;
        values = refl;
        none = refl;
        empty = refl;
        ways = λ us y.
            closes_more x d w may full us
            (opens_first 1 n c (opened_desk c n ok range.0 range.1 free) us (open_done c n ok range.0 range.1 free) refl y);
      }

  -- ---- adding
  -- the words of the block that are left
  abbrev left : Option Part → Block → ℕ
  left r b = length (drop (laid_of r) (words_in t.block mode b.kind b.values))

  -- the block is new, or the unfinished one
  record Fitting (d : Desk) (b : Block) : Type 0 where
    same : is_other d.writer.rest b.kind (length b.values) ≡ false
    kept : (d.writer.rest ≡ None) ⊎ (d.values ≡ b.values)

  module _ (b : Block) (us : List Block) (passes : Passes mode t b) where
    -- what goes on behind the block
    After : Type 0
    After = (x : ℕ) (d : Desk) → Working x d → d.writer.rest ≡ None → Ways (length d.now.pieces) x d (map block_of d.now.blocks ++ us)

    Again : ℕ → Type 0
    Again fuel =
        (x : ℕ) (d : Desk) → Working x d → Fitting d b → left d.writer.rest b < fuel → Ways (length d.now.pieces) x d (map block_of d.now.blocks ++ (b ∷ us))

    module _ (fuel x : ℕ) (d : Desk) (w : Working x d) (fit : Fitting d b) (few : left d.writer.rest b < suc fuel)
        (space : is_full (end_in d.writer) d.writer.place ≡ false) (behind : After) (again : Again fuel) where
      abbrev kind : ℕ
      kind = b.kind

      abbrev vs : List ℕ
      vs = b.values

      clear : add_fault d.writer (length d.now.words) b.kind b.values ≡ 0
      clear =
          let o = (now_open x d w).is_open in
          adds_clear d.writer (length d.now.words) kind vs (fits_now x d w) w.ok.possible (ap (λ (m : ℕ). valued m vs) o.of_mode ∙ passes_values mode t b moded passes)
          (ap (λ (u : Settings). ill_shaped d.writer.place u.block kind (length vs)) (state_settings x d w) ∙ passes_shape mode t b d.writer.place passes) space w.at fit.same

      leaves : is_at (adding d.writer d.now.words b.kind b.values).state.place ≡ true
      leaves = ap (λ (y : Added). is_at y.state.place) (add_leaves d.writer d.now.words kind vs clear)

      as_laid_lem : values_now d b.values ≡ b.values
      as_laid_lem = as_lent d vs fit.kept

      todo_is : todo d.writer b.kind b.values ≡ drop (laid_of d.writer.rest) (words_in t.block mode b.kind b.values)
      todo_is =
          ap₂ (λ (u : Settings) (m : ℕ). drop (laid_of d.writer.rest) (words_in u.block m kind vs)) (state_settings x d w) (now_open x d w).is_open.of_mode

      -- finished: the blocks behind it follow
      by_finished : (adding d.writer d.now.words b.kind b.values).answer ≡ Finished → Ways (suc (length d.now.pieces)) x d (map block_of d.now.blocks ++ (b ∷ us))
      unfolding After sends
      by_finished e =
          let d' = added_by Finished (adding d.writer d.now.words kind vs) d kind vs in
          let works : Working x d' = record {
            ok = finished_ok system mode d kind vs w.ok clear e;
            at = leaves;
            is_f = w.is_f;
            is_v = w.is_v;
            number = w.number;
            settings = w.settings;
          } in
          let y = behind x d' works (rest_whole mode d kind vs w.ok.owes clear e) in
          let is : map block_of (d.now.blocks ++ (complete_now d kind vs ∷ [])) ++ us ≡ map block_of d.now.blocks ++ (b ∷ us) =
          ap (λ (l : List Block). l ++ us) (map-append block_of d.now.blocks (complete_now d kind vs ∷ []))
          ∙ append_assoc (map block_of d.now.blocks) (block_of (complete_now d kind vs) ∷ []) us
          ∙ ap (λ (l : List ℕ). map block_of d.now.blocks ++ (record { kind = kind; values = l } ∷ us)) as_laid_lem in
          before (suc (length d.now.pieces)) x d d' (adds kind vs) (map block_of d.now.blocks ++ (b ∷ us)) refl (after_finished d kind vs e)
          (subst (Ways (suc (length d.now.pieces)) x d') is
          (with_fewer (length d'.now.pieces) (suc (length d.now.pieces)) x d' _ (omega (arith, length-append d.now.pieces ((piece_now d kind vs).words ∷ []))) y))

      -- unfinished: fewer words are left
      by_unfinished : (adding d.writer d.now.words b.kind b.values).answer ≡ Unfinished → Ways (suc (length d.now.pieces)) x d (map block_of d.now.blocks ++ (b ∷ us))
      unfolding Again sends
      by_unfinished e =
          let d' = added_by Unfinished (adding d.writer d.now.words kind vs) d kind vs in
          let works : Working x d' = record {
            ok = unfinished_ok system mode d kind vs w.ok clear e;
            at = leaves;
            is_f = w.is_f;
            is_v = w.is_v;
            number = w.number;
            settings = w.settings;
          } in
          let k = fitting d.writer (todo d.writer kind vs) in
          let rest = rest_left d.writer d.now.words kind vs clear e in
          let words = words_in t.block mode kind vs in
          let less = fewer (length words) (laid_of d.writer.rest) k (end_in d.writer) (place_of d.writer.place) (length (todo d.writer kind vs)) (left d'.writer.rest b)
          (ap length todo_is ∙ length-drop (laid_of d.writer.rest) words)
          (ap (λ (r : Option Part). left r b) rest ∙ length-drop (laid_of d.writer.rest + k) words)
          (can_add d.writer d.now.words kind vs clear).room refl
          (eqb-false k (length (todo d.writer kind vs)) (some_left d.writer d.now.words kind vs clear e)) in
          let fitting : Fitting d' b = record {
            same = ap (λ (r : Option Part). is_other r kind (length vs)) rest ∙ ap not (and_true (eq-eqb kind kind refl) (eq-eqb (length vs) (length vs) refl));
            kept = inr as_laid_lem;
          } in
          let y = again x d' works fitting (omega (arith, less, few, ap length todo_is)) in
          before (suc (length d.now.pieces)) x d d' (adds kind vs) (map block_of d.now.blocks ++ (b ∷ us)) refl (after_unfinished d kind vs e)
          (with_fewer (length d'.now.pieces) (suc (length d.now.pieces)) x d' _ (omega (arith, length-append d.now.pieces ((piece_now d kind vs).words ∷ []))) y)

      lays : Ways (suc (length d.now.pieces)) x d (map block_of d.now.blocks ++ (b ∷ us))
      lays = by (adding d.writer d.now.words kind vs).answer refl
        where
          by : (a : Laid) → (adding d.writer d.now.words b.kind b.values).answer ≡ a → Ways (suc (length d.now.pieces)) x d (map block_of d.now.blocks ++ (b ∷ us))
          by (NotLaid k) e = absurd (refused_fault d b.kind b.values k e clear)
          by Finished e = by_finished e
          by Unfinished e = by_unfinished e

    -- on this line, or on the next one where this is full
    lay_or_next : (fuel x : ℕ) (d : Desk) → Working x d → Fitting d b → left d.writer.rest b < suc fuel → After → Again fuel
        → Ways (length d.now.pieces) x d (map block_of d.now.blocks ++ (b ∷ us))
    lay_or_next fuel x d w fit few behind again = by (is_full (end_in d.writer) d.writer.place) refl
      where
        by : (full : Bool) → is_full (end_in d.writer) d.writer.place ≡ full → Ways (length d.now.pieces) x d (map block_of d.now.blocks ++ (b ∷ us))
        by false e = with_fewer (suc (length d.now.pieces)) (length d.now.pieces) x d _ (omega arith) (lays fuel x d w fit few e behind again)
        by true e =
            let n = next_line x d w e in
            let fit' : Fitting n.desk b = record {
              same = ap (λ (r : Option Part). is_other r b.kind (length b.values)) n.rest ∙ fit.same;
              kept = ⊎_elim (λ z. inl (n.rest ∙ z)) (λ z. inr (n.values ∙ z)) fit.kept;
            } in
            let few' = subst (λ (r : Option Part). left r b < suc fuel) (sym n.rest) few in
            let some = end_some system t known clean in
            let space : is_full (end_in n.desk.writer) n.desk.writer.place ≡ false =
            ap₂ is_full
            (end_now (next_number N x) n.desk n.works ∙ ap (λ (u : Settings). blocks_end (system_of system).payload u.block u.flag) n.works.settings) n.place
            ∙ not_full (blocks_end (system_of system).payload t.block t.flag) 0 some in
            let y = lays fuel (next_number N x) n.desk n.works fit' few' space behind again in
            n.ways (b ∷ us)
            (subst (λ (bs : List Complete). Ways 1 (next_number N x) n.desk (map block_of bs ++ (b ∷ us))) n.none
            (with_fewer (suc (length n.desk.now.pieces)) 1 (next_number N x) n.desk _ (omega arith) y))

    lay_block : (fuel : ℕ) → After → Again fuel
    unfolding Again
    lay_block zero behind x d w fit few = absurd (omega arith)
    lay_block (suc fuel) behind x d w fit few = lay_or_next fuel x d w fit few behind (lay_block fuel behind)

  -- ---- any blocks
  lay_all_lem : (bs : List Block) → All (Passes mode t) bs → (x : ℕ) (d : Desk) → Working x d → d.writer.rest ≡ None
      → Ways (length d.now.pieces) x d (map block_of d.now.blocks ++ bs)
  unfolding Again After
  lay_all_lem [] h x d w whole =
      subst (Ways (length d.now.pieces) x d) (sym (append-nil (map block_of d.now.blocks)))
      (closes_last x d w (ap (λ (r : Option Part). is_part r && not (is_full (end_in d.writer) d.writer.place)) whole))
  lay_all_lem (b ∷ bs) h x d w whole =
      lay_block b bs h.0 (suc (left d.writer.rest b)) (λ x' d' w' whole'. lay_all_lem bs h.1 x' d' w' whole') x d w
      (record { same = ap (λ (r : Option Part). is_other r b.kind (length b.values)) whole; kept = inl whole }) (omega arith)

  pub all_written : (n : ℕ) (bs : List Block) → 1 ≤ n → n ≤ (system_of system).lines → All (Passes mode t) bs → Writes system mode f v n t bs
  unfolding open_blocked
  all_written n bs one last h =
      let d = start system mode in
      let ok = start_ok system mode in
      let done = open_done d n ok one last refl in
      let w = working d n ok one last refl in
      let y = opens_first 0 n d (opened_desk d n ok one last refl) bs done refl (with_fewer _ 0 n _ bs (omega arith) (lay_all_lem bs h n (opened_desk d n ok one last refl) w (opens_say system mode d f v n t lent ok done).rest)) in
      record {
        calls = y.calls;
        blocks = y.sent.blocks;
        opened = y.sent.opened;
        numbers = y.sent.numbers;
        packed = y.sent.packed;
        some = has_one 0 (sent_fresh system mode y.calls) y.sent.first;
        one_line = λ fixed few.
            let ss = sent_fresh system mode y.calls in
            on_one system t clean fixed bs few ss (has_one 0 ss y.sent.first) (fixed_fresh system mode y.calls)
            (all_by (OpenedWith f v t) (λ (s : Sent). s.settings ≡ t) (λ s o. o.1.1) ss y.sent.opened) y.sent.packed y.sent.blocks;
      }
