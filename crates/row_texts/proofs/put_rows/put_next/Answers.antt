-- `put_next` meets its contract: the thirteen numbers that are lent are the row that begins there. Assumes nothing.
use Prim.Native.Nat.{ℕ, ◌+◌, ◌-◌, ◌≤◌}
use mathlib.Core.Path.{◌≡◌, ap}
use mathlib.Core.List.{List}
use native.Mathlib.Omega.{arith}
use lib.ListN.{length, take, drop, length-take, length-drop}
use Rattle.row_texts.proofs.put_rows.put_next.Goals as goal

part : (numbers : List ℕ) (start : ℕ) → take (start + 13 - start) (drop start numbers) ≡ take 13 (drop start numbers)
part numbers start = let e : start + 13 - start ≡ 13 = omega arith in ap (λ (n : ℕ). take n (drop start numbers)) e

thirteen : (numbers : List ℕ) (start : ℕ) → start + 13 ≤ length numbers → length (take 13 (drop start numbers)) ≡ 13
thirteen numbers start h = simp (length-take, length-drop) (omega arith)

pub put_made-requires : goal.put_made-requires
put_made-requires c = rw (part c.args.numbers.now c.args.start) (thirteen c.args.numbers.now c.args.start c.requires.there, c.requires.within)

pub returns-then-out-at-lt-MOST_BYTES : goal.returns-then-out-at-lt-MOST_BYTES
returns-then-out-at-lt-MOST_BYTES c = rw (part c.args.numbers.now c.args.start) at c.put_made.ensures

pub put_line-requires : goal.put_line-requires
put_line-requires c =
    rw (part c.args.numbers.now c.args.start) record {
      thirteen = thirteen c.args.numbers.now c.args.start c.requires.there;
      room = omega (arith, c.requires.within, c.if-out-at-lt-MOST_BYTES.false);
      before = c.requires.before;
      stands = λ e. let same = c.ends_alike-alike.ensures e in c.requires.stands same.0 same.1;
    }

pub returns : goal.returns
returns c = rw (part c.args.numbers.now c.args.start) at c.put_line.ensures
