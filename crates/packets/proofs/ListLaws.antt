-- The list of packets: it does not hang on the number of steps, a list laid is found again, and a list found is the first words of the gap.
-- Assumes nothing.
use mathlib.Core.Path.{◌≡◌, refl, sym, ap, ap₂, ◌∙◌, subst}
use mathlib.Core.Bool.{Bool, true, false}
use mathlib.Core.List.{List, [], ◌∷◌, ◌++◌, append_assoc}
use Prim.Native.Nat.{ℕ, zero, suc, ◌+◌, ◌*◌, ◌%◌, ◌≤◌}
use native.Mathlib.Nat.{add_comm}
use native.Mathlib.Numerals.{add-one}
use native.Mathlib.Omega.{arith}
use lib.Dec.{eqb}
use lib.ListN.{length, get_or, take, drop, length-take, length-drop, length-append}
use lib.Seq.{take-add, drop-drop}
use borrow.Author.Tests.{eq-eqb, ne_eqb, eqb-true, eqb-false}
use Rattle.lists.specs.Tests.{pick}
use Rattle.lists.proofs.Tests.{pick_true, pick_false}
use Rattle.line.specs.Layout.{gap_word, gap_words}
use Rattle.line.specs.Check.{low}
use Rattle.packets.specs.declared.packet.Look.{Look}
use Rattle.packets.specs.declared.packet.Look.TheVariants.{Nothing, Whole, Bad}
use Rattle.packets.specs.declared.list.Listed.{Listed}
use Rattle.packets.specs.Packet.{Packet, words_of, packed, entry_of, flat}
use Rattle.packets.specs.Gap.{flag_at, count_at, fault_at, packet_at, look_at, Found, ends, before, list_by, list_in}
use Rattle.packets.specs.Listing.{Outcome, outcome, listed_of}
use Rattle.packets.proofs.PacketLaws.{good, look_nothing, look_bad, look_whole}
use Rattle.packets.proofs.PacketBack.{packet_long, counted, packet_back, Sound, flag_there, fault_there, packet_there, rest_there}

-- a choice of lists by the flag and the fault
abbrev chosen : List ℕ → Found → Found
chosen g x = pick (flag_at g) (pick (eqb (fault_at g) 0) (before (packet_at g) x) (ends (fault_at g))) (ends 0)

-- ---- as many steps as the gap has words are enough
agree : (k m : ℕ) (g : List ℕ) → length g ≤ k → length g ≤ m → list_by k g ≡ list_by m g
unfolding list_by pick
agree zero zero g h i = refl
agree zero (suc m) [] h i = refl
agree zero (suc m) (x ∷ g) h i = absurd (omega arith)
agree (suc k) zero [] h i = refl
agree (suc k) zero (x ∷ g) h i = absurd (omega arith)
agree (suc k) (suc m) g h i =
    let l = length-drop (count_at g + 7) g in
    ap (chosen g) (agree k m (drop (count_at g + 7) g) (omega arith) (omega arith))

list_step : (g : List ℕ) → list_in g ≡ chosen g (list_in (drop (count_at g + 7) g))
unfolding list_in list_by
list_step g =
    let l = length-drop (count_at g + 7) g in
    agree (length g) (suc (length g)) g (omega arith) (omega arith)
    ∙ ap (chosen g) (agree (length g) (length (drop (count_at g + 7) g)) (drop (count_at g + 7) g) (omega arith) (omega arith))

pub list_nothing : (g : List ℕ) → flag_at g ≡ false → list_in g ≡ ends 0
list_nothing g f = list_step g ∙ pick_false _ _ f

pub list_bad : (g : List ℕ) → flag_at g ≡ true → (fault_at g ≡ 0 → ⊥) → list_in g ≡ ends (fault_at g)
list_bad g f h = list_step g ∙ pick_true _ _ f ∙ pick_false _ _ (ne_eqb (fault_at g) 0 h)

pub list_whole : (g : List ℕ) → flag_at g ≡ true → fault_at g ≡ 0 → list_in g ≡ before (packet_at g) (list_in (drop (count_at g + 7) g))
list_whole g f h = list_step g ∙ pick_true _ _ f ∙ pick_true _ _ (eq-eqb (fault_at g) 0 h)

-- ---- a list found is the first words of the gap, whatever ended it
abbrev Front : List ℕ → List ℕ → Type 0
Front g ws = ws ≡ take (length ws) g

front_more : (g ws vs : List ℕ) (n : ℕ) → length ws ≡ n → ws ≡ take n g → Front (drop n g) vs → Front g (ws ++ vs)
front_more g ws vs n l e f =
    ap₂ ◌++◌ e f ∙ sym (take-add n (length vs) g) ∙ ap (λ (k : ℕ). take k g) (ap (λ (k : ℕ). k + length vs) (sym l) ∙ sym (length-append ws vs))

back_choice : (g : List ℕ) (x : Found) (f b : Bool) → flag_at g ≡ f → eqb (fault_at g) 0 ≡ b → Front (drop (count_at g + 7) g) (packed x.packets)
    → Front g (packed (pick f (pick b (before (packet_at g) x) (ends (fault_at g))) (ends 0)).packets)
unfolding pick
back_choice g x false b e h y = refl
back_choice g x true false e h y = refl
back_choice g x true true e h y =
    let w = good g (eqb-true (fault_at g) 0 h) in
    front_more g (words_of (packet_at g)) (packed x.packets) (count_at g + 7)
    (packet_long (packet_at g).did (packet_at g).second (packet_at g).values ∙ ap (λ (c : ℕ). c + 7) (counted g w)) (packet_back g w e) y

back_by : (k : ℕ) (g : List ℕ) → Front g (packed (list_by k g).packets)
unfolding list_by
back_by zero g = refl
back_by (suc k) g = back_choice g (list_by k (drop (count_at g + 7) g)) (flag_at g) (eqb (fault_at g) 0) refl refl (back_by k (drop (count_at g + 7) g))

-- `list_back`: what is listed, written again, is word for word what stood there
pub list_back : (g : List ℕ) → packed (list_in g).packets ≡ take (length (packed (list_in g).packets)) g
unfolding list_in
list_back g = back_by (length g) g

-- ---- a list laid is found again
abbrev pub AllSound : List Packet → Type 0
AllSound [] = Unit {0}
AllSound (p ∷ ps) = Sound p × AllSound ps

pub list_there : (ps : List Packet) (r : List ℕ) → AllSound ps → flag_at r ≡ false → list_in (packed ps ++ r) ≡ record { packets = ps; stop = 0 }
list_there [] r k f = list_nothing r f
list_there (p ∷ ps) r k f =
    let q = packed ps ++ r in
    ap list_in (append_assoc (words_of p) (packed ps) r)
    ∙ list_whole (words_of p ++ q) (flag_there p k.0 q) (fault_there p k.0 q)
    ∙ ap₂ before (packet_there p k.0 q) (ap list_in (rest_there p k.0 q) ∙ list_there ps r k.1 f)

-- packets one behind another
pub packed_append : (ps qs : List Packet) → packed (ps ++ qs) ≡ packed ps ++ packed qs
packed_append [] qs = refl
packed_append (p ∷ ps) qs = ap (λ (l : List ℕ). words_of p ++ l) (packed_append ps qs) ∙ sym (append_assoc (words_of p) (packed ps) (packed qs))

-- 01's filler has no flag
filler_by : (b : Bool) (ws : List ℕ) → flag_at (pick b 0x200 0x040 ∷ ws) ≡ false
unfolding pick
filler_by true ws = refl
filler_by false ws = refl

pub filler_none : (i m : ℕ) → flag_at (gap_words i m) ≡ false
unfolding gap_word
filler_none i zero = refl
filler_none i (suc m) = filler_by (eqb (i % 2) 0) (gap_words (suc i) m)

-- ---- how long a list is
pub flat_long : (ps : List Packet) → length (flat ps) + 4 * length ps ≡ length (packed ps)
flat_long [] = refl
flat_long (p ∷ ps) =
    let a = length-append p.values (flat ps) in
    let b = length-append (words_of p) (packed ps) in
    let c = packet_long p.did p.second p.values in
    let d = flat_long ps in
    omega arith

pub list_fits : (g : List ℕ) → length (packed (list_in g).packets) ≤ length g
list_fits g =
    let l = length-take (length (packed (list_in g).packets)) g in
    let e = ap length (list_back g) in
    omega arith

-- ---- what a look tells
pub record WholeAt (g : List ℕ) (n : ℕ) : Type 0 where
  pub flag : flag_at g ≡ true
  pub fault : fault_at g ≡ 0
  pub count : n ≡ count_at g
  pub long : n + 7 ≤ length g

-- a look tells one of three things, by the flag and the fault
module _ (g : List ℕ) where
  by_look : (P : Look → Type 0) → (flag_at g ≡ false → P Nothing) → (flag_at g ≡ true → (fault_at g ≡ 0 → ⊥) → P (Bad (fault_at g)))
      → (flag_at g ≡ true → fault_at g ≡ 0 → P (Whole (low (get_or g 3 0)) (low (get_or g 4 0)) (count_at g))) → P (look_at g)
  by_look P a b c = go (flag_at g) (eqb (fault_at g) 0) refl refl
    where
      go : (f t : Bool) → flag_at g ≡ f → eqb (fault_at g) 0 ≡ t → P (look_at g)
      go false t e h = subst P (sym (look_nothing g e)) (a e)
      go true false e h = let k = eqb-false (fault_at g) 0 h in subst P (sym (look_bad g e k)) (b e k)
      go true true e h = let k = eqb-true (fault_at g) 0 h in subst P (sym (look_whole g e k)) (c e k)

  pub nothing_told : look_at g ≡ Nothing → flag_at g ≡ false
  nothing_told e =
      by_look (λ l. l ≡ Nothing → flag_at g ≡ false) (λ f x. f) (λ f h x. let z : ◌≡◌ {A = ℕ} 0 1 = cc in absurd (omega arith))
      (λ f h x. let z : ◌≡◌ {A = ℕ} 0 1 = cc in absurd (omega arith)) e

  pub bad_told : (n : ℕ) → look_at g ≡ Bad n → list_in g ≡ ends n
  bad_told n e =
      by_look (λ l. l ≡ Bad n → list_in g ≡ ends n) (λ f x. let z : ◌≡◌ {A = ℕ} 0 1 = cc in absurd (omega arith))
      (λ f h x. let z : fault_at g ≡ n = cc in list_bad g f h ∙ ap ends z)
      (λ f h x. let z : ◌≡◌ {A = ℕ} 0 1 = cc in absurd (omega arith)) e

  pub whole_told : (d s n : ℕ) → look_at g ≡ Whole d s n → WholeAt g n
  whole_told d s n e =
      by_look (λ l. l ≡ Whole d s n → WholeAt g n) (λ f x. let z : ◌≡◌ {A = ℕ} 0 1 = cc in absurd (omega arith))
      (λ f h x. let z : ◌≡◌ {A = ℕ} 0 1 = cc in absurd (omega arith))
      (λ f h x. let z : n ≡ count_at g = cc in let k = (good g h).long in record { flag = f; fault = h; count = z; long = omega arith }) e

-- ---- the packet at the front listed, and what lies behind it
abbrev more : Listed → ℕ → Listed
more r n = record { fault = 0; packets = r.packets + 1; words = r.words + (n + 3); gap = r.gap + (n + 7); stop = r.stop }

pub listed_more : (g out xs ys : List ℕ) (r : Listed) (n : ℕ) → WholeAt g n → xs ≡ entry_of (packet_at g)
    → outcome r ys ≡ listed_of (list_in (drop (n + 7) g)) (drop (n + 3) out) → outcome (more r n) (xs ++ ys) ≡ listed_of (list_in g) out
listed_more g out xs ys r n w e h =
    let x = list_in (drop (n + 7) g) in
    let ps = x.packets in
    let p = packet_at g in
    let k = good g w.fault in
    let c : count_at g ≡ n = sym w.count in
    let list : list_in g ≡ before p x = list_whole g w.flag w.fault ∙ ap (λ (m : ℕ). before p (list_in (drop (m + 7) g))) c in
    let entry : length (entry_of p) ≡ n + 3 = (let l = counted g k in omega arith) in
    let words : length (flat ps) + (n + 3) ≡ length (flat (p ∷ ps)) = (let l = length-append (entry_of p) (flat ps) in omega arith) in
    let long : length (packed ps) + (n + 7) ≡ length (packed (p ∷ ps)) =
    (let l = length-append (words_of p) (packed ps) in let m = packet_long p.did p.second p.values in let o = counted g k in omega arith) in
    let text : entry_of p ++ (flat ps ++ drop (length (flat ps)) (drop (n + 3) out)) ≡ flat (p ∷ ps) ++ drop (length (flat (p ∷ ps))) out =
    sym (append_assoc (entry_of p) (flat ps) _)
    ∙ ap (λ (l : List ℕ). flat (p ∷ ps) ++ l) (drop-drop (length (flat ps)) (n + 3) out ∙ ap (λ (m : ℕ). drop m out) (add_comm (n + 3) (length (flat ps)) ∙ words)) in
    ap₂ (λ (o : Outcome) (zs : List ℕ). outcome (more o.answer n) (zs ++ o.out)) h e
    ∙ ap₂ (λ (a b : ℕ). outcome (record { fault = 0; packets = length ps + 1; words = a; gap = b; stop = x.stop }) (entry_of p ++ (flat ps ++ drop (length (flat ps)) (drop (n + 3) out)))) words long
    ∙ ap₂ (λ (a : ℕ) (zs : List ℕ). outcome (record { fault = 0; packets = a; words = length (flat (p ∷ ps)); gap = length (packed (p ∷ ps)); stop = x.stop }) zs) (add-one (length ps)) text
    ∙ ap (λ (y : Found). listed_of y out) (sym list)

-- how large the numbers of a list are
pub listed_small : (g out ys : List ℕ) (r : Listed) → outcome r ys ≡ listed_of (list_in g) out → (r.packets ≤ length g) × ((r.words ≤ length g) × (r.gap ≤ length g))
listed_small g out ys r e =
    let a = ap (λ (o : Outcome). o.answer.packets) e in
    let b = ap (λ (o : Outcome). o.answer.words) e in
    let c = ap (λ (o : Outcome). o.answer.gap) e in
    let f = flat_long (list_in g).packets in
    let l = list_fits g in
    (omega arith, (omega arith, omega arith))

-- one packet more
pub sound_more : (ps : List Packet) (p : Packet) → AllSound ps → Sound p → AllSound (ps ++ (p ∷ []))
sound_more [] p h k = (k, tt)
sound_more (q ∷ ps) p h k = (h.0, sound_more ps p h.1 k)
