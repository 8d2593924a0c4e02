-- The bound of demand 3 is needed: with a run of removed lines as long as one frame allowed, what demand 3 says is false on system 0. A block's first
-- line is kept, the 525 lines behind it are removed, and the line kept next is the second line of another block of the same type and length. Its number
-- comes next, so the reader takes it for the second line of the first block, and hands out a block that nobody wrote.
-- Assumes nothing.
use Rattle.std.specs.Prelude.{Some, None}
use Prim.Native.Nat.{ℕ, zero, suc, ◌+◌, ◌<◌}
use mathlib.Core.Bool.{Bool, true, false, ◌&&◌}
use mathlib.Core.List.{List, [], ◌∷◌, ◌++◌, map, append_assoc}
use mathlib.Core.Path.{◌≡◌, refl, sym, ap, ap₂, ◌∙◌, subst}
use native.Mathlib.Omega.{arith}
use lib.Dec.{ltb}
use lib.ListN.{length, replicate, length-append, length-replicate}
use Rattle.lists.specs.Tests.{pick}
use Rattle.lists.proofs.Tests.{pick_false}
use Rattle.words.specs.Modes.{values}
use Rattle.line.specs.Settings.{no_settings}
use Rattle.course.specs.Course.{next_number}
use Rattle.writer.specs.Adding.{valued}
use Rattle.writer.specs.Filling.{as_laid}
use Rattle.lists.proofs.Lists.{take_filler, drop_filler}
use Rattle.writer.proofs.Legal.{each_filler}
use Rattle.reader.specs.State.{capacity, fresh}
use Rattle.demands.specs.All.{All}
use Rattle.demands.specs.Sending.{Call, Block, Sent, start, sent_by, sent_fresh, blocks_of}
use Rattle.demands.specs.Hearing.{Heard, Reads, handed_out}
use Rattle.demands.specs.Damage.{Fate, kept, removed, remain, RefusedIfReplaced, run_from, kept_at, survivors}
use Rattle.demands.specs.Demand2.{IsLine, given_back}
use Rattle.demands.specs.Demand3.{Follows, Consecutive, HandsOut}
use Rattle.demands.proofs.AllLaws.{all_behind}
use Rattle.demands.proofs.LineEnds.{readable}
use Rattle.demands.proofs.DeskStart.{start_ok}
use Rattle.demands.proofs.PieceRun.{all_lost}
use Rattle.demands.proofs.Demand2Holds.{demand_2}
use Rattle.demands.proofs.FrameCourse.{one_set, desk, Values, head_of, tail_of, piece, block_line, fillers, first_of, second_of, Lays, block_sent, Fillers, fillers_sent, none_sent}

-- ---- the fates: the first line kept, n lines removed, and the line behind them kept
abbrev fates : ℕ → List Fate
fates n = kept ∷ (replicate n removed ++ (kept ∷ []))

-- that run is the longest
run_is : (r n : ℕ) → run_from r (replicate n removed ++ (kept ∷ [])) ≡ r + n
run_is r zero = omega arith
run_is r (suc n) = omega (arith, run_is (suc r) n)

refusing : (n : ℕ) → All (RefusedIfReplaced 0 8) (replicate n removed ++ (kept ∷ []))
refusing zero = (tt, tt)
refusing (suc n) = (tt, refusing n)

lost_at : (n j : ℕ) (fs : List Fate) → j < n → kept_at (replicate n removed ++ fs) j ≡ false
lost_at zero j fs h = absurd (omega arith)
lost_at (suc n) zero fs h = refl
lost_at (suc n) (suc j) fs h = lost_at n j fs (omega arith)

-- what is left of lines when n of them are removed
left_of : (n : ℕ) (xs ys : List Sent) (fs : List Fate) → length xs ≡ n → remain (replicate n removed ++ fs) (xs ++ ys) ≡ remain fs ys
left_of zero [] ys fs e = refl
left_of zero (x ∷ xs) ys fs e = absurd (omega arith)
left_of (suc n) [] ys fs e = absurd (omega arith)
left_of (suc n) (x ∷ xs) ys fs e = left_of n xs ys fs (omega arith)

module _ (lent : List ℕ) (lent_long : length lent ≡ 1716) (a b : List ℕ) (va : Values a) (vb : Values b) where
  -- ---- the lines: a block on lines 1 and 2, no block on lines 3 to 525, another block on lines 1 and 2 of the next frame
  pub calls : List Call
  calls = block_line lent 1 a (block_line lent 2 a (fillers lent 523 2 (block_line lent 1 b (block_line lent 2 b []))))

  record Sends : Type 0 where
    w₀ : List ℕ
    w₁ : List ℕ
    w₂ : List ℕ
    w₃ : List ℕ
    between : List Sent
    is : sent_fresh 0 8 calls ≡ first_of a w₀ ∷ (second_of 0 a a w₁ ∷ (between ++ (first_of b w₂ ∷ (second_of 525 b b w₃ ∷ []))))
    long : length between ≡ 523
    blocks : (rest : List Sent) → blocks_of (between ++ rest) ≡ blocks_of rest
    follows : (rest : List Sent) → Follows 525 525 rest → Follows 525 2 (between ++ rest)

  sends_by_lem : (x : Lays lent lent_long (start 0 8) 0 a a) (m : Fillers lent lent_long 523 2 2 (second_of 0 a a x.second))
      → Lays lent lent_long (desk (Some 525) one_set None None m.last_one 525 [] []) 525 b b → Sends
  unfolding calls
  sends_by_lem x m y =
      let last_two = first_of b y.first ∷ (second_of 525 b b y.second ∷ []) in
      let end : sent_by (desk (Some 525) one_set None None m.last_one 525 [] []) (block_line lent 1 b (block_line lent 2 b [])) ≡ last_two =
      y.is [] ∙ ap {B = List Sent} (λ (l : List Sent). first_of b y.first ∷ (second_of 525 b b y.second ∷ l)) (none_sent _) in
      record {
        w₀ = x.first;
        w₁ = x.second;
        w₂ = y.first;
        w₃ = y.second;
        between = m.lines;
        is = x.is (fillers lent 523 2 (block_line lent 1 b (block_line lent 2 b [])))
            ∙ ap {B = List Sent} (λ (l : List Sent). first_of a x.first ∷ (second_of 0 a a x.second ∷ l))
            (m.is (block_line lent 1 b (block_line lent 2 b [])) ∙ ap (λ (l : List Sent). m.lines ++ l) end);
        long = m.long;
        blocks = m.blocks;
        follows = m.follows;
      }

  sends_them : Sends
  sends_them =
      let x = block_sent lent lent_long None no_settings (start 0 8).now 0 a a va va (start_ok 0 8) in
      let m = fillers_sent lent lent_long 523 2 2 (second_of 0 a a x.second) (omega arith) x.ok in
      sends_by_lem x m (block_sent lent lent_long (Some 525) one_set m.last_one 525 b b vb vb m.ok)

  -- ---- another course: the first line of the first block, and the second line of the other
  pub mixed : List Call
  mixed = block_line lent 1 a (block_line lent 2 b [])

  pub record Mixes : Type 0 where
    pub w₀ : List ℕ
    pub w₁ : List ℕ
    pub is : sent_fresh 0 8 mixed ≡ first_of a w₀ ∷ (second_of 0 a b w₁ ∷ [])

  pub mixes_them : Mixes
  unfolding mixed
  mixes_them =
      let x = block_sent lent lent_long None no_settings (start 0 8).now 0 a b va vb (start_ok 0 8) in
      record {
        w₀ = x.first;
        w₁ = x.second;
        is = x.is [] ∙ ap {B = List Sent} (λ (l : List Sent). first_of a x.first ∷ (second_of 0 a b x.second ∷ l)) (none_sent _);
      }

  -- ---- what remains of the lines is what the other course sends
  abbrev its_lines : Sends → List Sent
  its_lines c = first_of a c.w₀ ∷ (second_of 0 a a c.w₁ ∷ (c.between ++ (first_of b c.w₂ ∷ (second_of 525 b b c.w₃ ∷ []))))

  abbrev lost_lines : Sends → List Sent
  lost_lines c = second_of 0 a a c.w₁ ∷ (c.between ++ (first_of b c.w₂ ∷ []))

  lost_long : (c : Sends) → length (lost_lines c) ≡ 525
  lost_long c = ap suc (length-append c.between (first_of b c.w₂ ∷ []) ∙ ap (λ (n : ℕ). n + 1) c.long)

  two_remain : (c : Sends) → remain (fates 525) (its_lines c) ≡ c.w₀ ∷ (c.w₃ ∷ [])
  two_remain c =
      let last_Line = second_of 525 b b c.w₃ ∷ [] in
      let cut : lost_lines c ++ last_Line ≡ second_of 0 a a c.w₁ ∷ (c.between ++ (first_of b c.w₂ ∷ last_Line)) =
      ap {B = List Sent} (λ (l : List Sent). second_of 0 a a c.w₁ ∷ l) (append_assoc c.between (first_of b c.w₂ ∷ []) last_Line) in
      ap {B = List (List ℕ)} (λ (l : List Sent). c.w₀ ∷ remain (replicate 525 removed ++ (kept ∷ [])) l) (sym cut)
      ∙ ap {B = List (List ℕ)} (λ (l : List (List ℕ)). c.w₀ ∷ l) (left_of 525 (lost_lines c) last_Line (kept ∷ []) (lost_long c))

  -- a line's words are those of its number, its settings and what was laid on it
  same_words : (c : Sends) (x : Mixes) → (c.w₀ ≡ x.w₀) × (c.w₃ ≡ x.w₁)
  same_words c x =
      let h : All (IsLine 0) (its_lines c) = subst (All (IsLine 0)) c.is (demand_2.lines 0 8 calls) in
      let k : All (IsLine 0) (first_of a x.w₀ ∷ (second_of 0 a b x.w₁ ∷ [])) = subst (All (IsLine 0)) x.is (demand_2.lines 0 8 mixed) in
      let e = all_behind (IsLine 0) c.between (first_of b c.w₂ ∷ (second_of 525 b b c.w₃ ∷ [])) h.1.1 in
      (h.0 ∙ sym k.0, e.1.0 ∙ sym k.1.0)

  remain_is : (c : Sends) (x : Mixes) → remain (fates 525) (sent_fresh 0 8 calls) ≡ map (λ (s : Sent). s.words) (sent_fresh 0 8 mixed)
  remain_is c x =
      let s = same_words c x in
      ap (remain (fates 525)) c.is ∙ two_remain c
      ∙ ap₂ {C = List (List ℕ)} (λ (u v : List ℕ). u ∷ (v ∷ [])) s.0 s.1
      ∙ sym (ap (map (λ (s : Sent). s.words)) x.is)

  -- ---- a block is handed out: the values of the first block's first line, and of the other block's second line
  handed_back : (u v : List ℕ) → handed_out (given_back 525 None (first_of a u ∷ (second_of 0 a b v ∷ []))) ≡ record { kind = 1; values = as_laid 1440 a b } ∷ []
  unfolding given_back
  handed_back u v = refl

  pub one_handed : (room : List ℕ) → length room ≡ capacity → (hs : List Heard) → Reads (fresh 0 8) room (remain (fates 525) (sent_fresh 0 8 calls)) hs
      → handed_out hs ≡ record { kind = 1; values = as_laid 1440 a b } ∷ []
  one_handed room long hs r =
      let c = sends_them in
      let x = mixes_them in
      ap handed_out
      (demand_2.heard 0 8 mixed room long hs (subst (λ (l : List (List ℕ)). Reads (fresh 0 8) room l hs) (remain_is c x) r)
      ∙ ap (given_back 525 None) x.is)
      ∙ handed_back x.w₀ x.w₁

  -- ---- and no block survives: the first lost its second line, and the other its first
  first_lost : kept_at (fates 525) 1 ≡ false
  first_lost = refl

  other_lost : kept_at (fates 525) 525 ≡ false
  other_lost = lost_at 525 524 (kept ∷ []) (omega arith)

  none_survive : (keeps : ℕ → Bool) → keeps 1 ≡ false → keeps 525 ≡ false → (c : Sends) → survivors keeps (blocks_of (its_lines c)) ≡ []
  none_survive keeps k₁ k₂ c =
      pick_false _ _ (all_lost keeps (piece 0 (head_of a) ∷ []) (piece 1 (tail_of a)) k₁)
      ∙ ap (survivors keeps) (c.blocks (first_of b c.w₂ ∷ (second_of 525 b b c.w₃ ∷ [])))
      ∙ pick_false _ _ (ap (λ (x : Bool). x && (keeps 526 && true)) k₂)

  -- ---- all but the bound holds
  consecutive : (c : Sends) → Consecutive 525 (its_lines c)
  unfolding next_number pick
  consecutive c = (refl, c.follows (first_of b c.w₂ ∷ (second_of 525 b b c.w₃ ∷ [])) (refl, (refl, tt)))

  each_line : (c : Sends) → length (fates 525) ≡ length (its_lines c)
  each_line c =
      let x = length-append (replicate 525 removed) (kept ∷ []) in
      let y = length-replicate 525 removed in
      let z = length-append c.between (first_of b c.w₂ ∷ (second_of 525 b b c.w₃ ∷ [])) in
      omega (arith, x, y, z, c.long)

  one_not_none : (x : Block) (l : List Block) → l ≡ x ∷ [] → l ≡ [] → ⊥
  one_not_none x l e h = let n : ◌≡◌ {A = ℕ} 1 0 = ap length (sym e ∙ h) in omega arith

  refuted : (room : List ℕ) → length room ≡ capacity → HandsOut 0 8 526 → ⊥
  refuted room long claim =
      let c = sends_them in
      let r = readable (fresh 0 8) room (remain (fates 525) (sent_fresh 0 8 calls)) refl in
      let says =
      claim calls (fates 525)
      (record {
        numbers = subst (Consecutive 525) (sym c.is) (consecutive c);
        each_line = each_line c ∙ ap length (sym c.is);
        runs = omega (arith, run_is 0 525);
        refusing = (tt, refusing 525);
      }) room long r.heard r.reads in
      one_not_none _ (handed_out r.heard) (one_handed room long r.heard r.reads)
      (says ∙ ap (λ (l : List Sent). survivors (kept_at (fates 525)) (blocks_of l)) c.is ∙ none_survive (kept_at (fates 525)) first_lost other_lost c)

-- ---- two blocks of 1,500 values, all 1 and all 2
pub all_values : (x : ℕ) → ltb x 256 ≡ true → Values (replicate 1500 x)
unfolding valued values pick
all_values x e = record { long = length-replicate 1500 x; fit = each_filler (λ v. ltb v 256) 1500 x e }

-- what is handed out of them is neither block: 1,434 values are the first block's, and 66 are the other's
both_values : as_laid 1440 (replicate 1500 1) (replicate 1500 2) ≡ replicate 1434 1 ++ replicate 66 2
both_values = ap₂ (λ (x y : List ℕ). x ++ y) (take_filler 1434 1500 1 (omega arith)) (drop_filler 1434 1500 2)

-- the calls, each opening lent a line of zeros
abbrev pub two_blocks : List Call
two_blocks =
    calls (replicate 1716 0) (length-replicate {A = ℕ} 1716 0) (replicate 1500 1) (replicate 1500 2) (all_values 1 refl) (all_values 2 refl)

pub neither_block : (room : List ℕ) → length room ≡ capacity → (hs : List Heard) → Reads (fresh 0 8) room (remain (fates 525) (sent_fresh 0 8 two_blocks)) hs
    → handed_out hs ≡ record { kind = 1; values = replicate 1434 1 ++ replicate 66 2 } ∷ []
neither_block room long hs r =
    one_handed (replicate 1716 0) (length-replicate {A = ℕ} 1716 0) (replicate 1500 1) (replicate 1500 2) (all_values 1 refl) (all_values 2 refl) room long hs r
    ∙ ap {B = List Block} (λ (vs : List ℕ). record { kind = 1; values = vs } ∷ []) both_values

-- One line more: it does not hold where a run may be one frame long.
pub frame_needed : HandsOut 0 8 526 → ⊥
frame_needed =
    refuted (replicate 1716 0) (length-replicate {A = ℕ} 1716 0) (replicate 1500 1) (replicate 1500 2) (all_values 1 refl) (all_values 2 refl)
    (replicate capacity 0) (length-replicate {A = ℕ} capacity 0)
