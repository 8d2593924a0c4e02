-- `line::settings::held` meets its contract. Assumes nothing.
use mathlib.Core.Path.{refl}
use Prim.Native.Nat.{ℕ}
use lib.ListN.{get_or}
use mir.Val.{Fits}
use mir.Syntax.{w8}
use borrow.Author.Tests.{lt-ltb}
use Rattle.lists.proofs.Lists.{each_all}
use Rattle.line.specs.Settings.{small}
use borrow.Author.Rules.{rules}
use Rattle.line.proofs.settings.held.Goals as goal

pub returns : goal.returns
returns c =
    let s = c.args.settings in
    let to : (i : ℕ) → Fits w8 (get_or s.destination i 0) = (λ i. search rules) in
    let from : (i : ℕ) → Fits w8 (get_or s.source i 0) = (λ i. search rules) in
    let five : (i : ℕ) → Fits w8 (get_or s.reserved i 0) = (λ i. search rules) in (
      refl,
      record {
        to = search rules;
        from = search rules;
        five = search rules;
        to_bytes = each_all small s.destination (λ i h. lt-ltb _ _ (to i).fits);
        from_bytes = each_all small s.source (λ i h. lt-ltb _ _ (from i).fits);
        five_bytes = each_all small s.reserved (λ i h. lt-ltb _ _ (five i).fits);
        block_byte = search rules;
        flag_byte = search rules;
      },
    )
