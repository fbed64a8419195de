-- `station::contents::contents_right` meets its contract. Assumes nothing.
-- what each entry that was passed says
use Prim.Native.Nat.{ℕ, ◌+◌}
use mathlib.Core.Path.{◌≡◌, sym, ap, ◌∙◌}
use mathlib.Core.Bool.{true}
use lib.ListN.{length}
use borrow.Author.Tests.{eq-eqb, ne_eqb}
use Rattle.rules.specs.StationFile.{count_at, configs_offset, entry_right}
use Rattle.station.proofs.ContentsOrder.{too_short, too_long_lem, entry-1, entry-2, entry-3, entry-4, size-last, contents-in-order, size-by-counts}
use borrow.Author.Rules.{rules}
use Rattle.station.proofs.contents.contents_right.Goals as goal
use Rattle.station.proofs.contents.contents_right.Goals.{Else-not-entry_right, Else-not-entry_right-2, Else-not-entry_right-3, After-entry_right-4}

first : (c : Else-not-entry_right) → entry_right c.args.s.now 0 1 1 1 32 ≡ true
first c = sym c.entry_right.ensures ∙ c.if-not-entry_right.false

second : (c : Else-not-entry_right-2) → entry_right c.args.s.now 1 2 1 1 68 ≡ true
second c = sym c.entry_right-2.ensures ∙ c.if-not-entry_right-2.false

third : (c : Else-not-entry_right-3) → entry_right c.args.s.now 2 3 1 8 100 ≡ true
third c = sym c.entry_right-3.ensures ∙ c.if-not-entry_right-3.false

-- the offset of the configurations is that of the sets that the contents name
fourth-is : (c : After-entry_right-4)
    → c.entry_right-4.result ≡ entry_right c.args.s.now 3 4 1 64 (configs_offset (count_at c.args.s.now 2))
fourth-is c = c.entry_right-4.ensures ∙ ap (λ (n : ℕ). entry_right c.args.s.now 3 4 1 64 (configs_offset n)) c.count_at.ensures.value

pub returns-then-size-lt-LEAST_FILE : goal.returns-then-size-lt-LEAST_FILE
returns-then-size-lt-LEAST_FILE c = too_short c.args.s.now (search rules)

pub returns-then-size-gt-MOST_FILE : goal.returns-then-size-gt-MOST_FILE
returns-then-size-gt-MOST_FILE c = too_long_lem c.args.s.now (search rules)

pub returns-then-not-entry_right : goal.returns-then-not-entry_right
returns-then-not-entry_right c = entry-1 c.args.s.now (search rules) (search rules) (sym c.entry_right.ensures ∙ c.if-not-entry_right.true)

pub returns-then-not-entry_right-2 : goal.returns-then-not-entry_right-2
returns-then-not-entry_right-2 c =
    entry-2 c.args.s.now (search rules) (search rules) (first (goal.at.returns-then-not-entry_right-2 c).Else-not-entry_right) (sym c.entry_right-2.ensures ∙ c.if-not-entry_right-2.true)

pub returns-then-not-entry_right-3 : goal.returns-then-not-entry_right-3
returns-then-not-entry_right-3 c =
    entry-3 c.args.s.now (search rules) (search rules) (first (goal.at.returns-then-not-entry_right-3 c).Else-not-entry_right) (second (goal.at.returns-then-not-entry_right-3 c).Else-not-entry_right-2) (sym c.entry_right-3.ensures ∙ c.if-not-entry_right-3.true)

pub returns-then-not-entry_right-4 : goal.returns-then-not-entry_right-4
returns-then-not-entry_right-4 c =
    entry-4 c.args.s.now (search rules) (search rules) (first (goal.at.returns-then-not-entry_right-4 c).Else-not-entry_right) (second (goal.at.returns-then-not-entry_right-4 c).Else-not-entry_right-2) (third (goal.at.returns-then-not-entry_right-4 c).Else-not-entry_right-3) (sym (fourth-is (goal.at.returns-then-not-entry_right-4 c).After-entry_right-4) ∙ c.if-not-entry_right-4.true)

pub returns-then-size-configs_at : goal.returns-then-size-configs_at
returns-then-size-configs_at c =
    let s = c.args.s.now in
    size-last s (search rules) (search rules) (first (goal.at.returns-then-size-configs_at c).Else-not-entry_right) (second (goal.at.returns-then-size-configs_at c).Else-not-entry_right-2) (third (goal.at.returns-then-size-configs_at c).Else-not-entry_right-3) (sym (fourth-is (goal.at.returns-then-size-configs_at c).After-entry_right-4) ∙ c.if-not-entry_right-4.false)
    (ne_eqb (length s) (configs_offset (count_at s 2) + count_at s 3) (λ z. c.if-size-configs_at.true (z ∙ sym (size-by-counts s _ _ c.count_at.ensures.value c.count_at-2.ensures.value))))

pub returns : goal.returns
returns c =
    let s = c.args.s.now in
    contents-in-order s (search rules) (search rules) (first (goal.at.returns c).Else-not-entry_right) (second (goal.at.returns c).Else-not-entry_right-2) (third (goal.at.returns c).Else-not-entry_right-3) (sym (fourth-is (goal.at.returns c).After-entry_right-4) ∙ c.if-not-entry_right-4.false)
    (eq-eqb (length s) (configs_offset (count_at s 2) + count_at s 3) (c.if-size-configs_at.false ∙ size-by-counts s _ _ c.count_at.ensures.value c.count_at-2.ensures.value))
