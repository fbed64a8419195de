-- `station::bodies::sets_of` meets its contract. Assumes nothing.
use borrow.Author.Rules.{rules}
use Prim.Native.Nat.{ℕ, ◌*◌}
use mathlib.Core.Path.{◌≡◌, sym, ap, ◌∙◌}
use mathlib.Core.List.{List}
use native.Mathlib.Omega.{arith}
use lib.ListN.{drop}
use lib.Seq.{drop-drop}
use Rattle.rules.specs.Bytes.{littles}
use Rattle.rules.specs.StationRecord.{no_set}
use Rattle.rules.specs.StationFile.{set_of, sets_of}
use Rattle.rules.proofs.StationRead.{length-sets_of}
use Rattle.station.proofs.Reading.{sets_more, row-turn}
use Rattle.station.proofs.bodies.sets_of.Goals as goal

pub loop-i-init : goal.loop-i-init
unfolding sets_of
loop-i-init c = (search rules, search rules, rw c.no_set-none.ensures)

pub loop-i-preserved : goal.loop-i-preserved
loop-i-preserved c =
    let a = c.args in
    let s = a.s.now in
    let i = c.loop-i.invariant in
    let v = c.set_of.ensures ∙ ap (λ (l : List ℕ). set_of (littles 4 16 l)) (sym (drop-drop (64 * c.loop-i.i) 100 s)) in
    (i.0, i.1, rw (i.2, v) (row-turn (sets_of c.loop-i.i (drop 100 s)) _ _ no_set c.loop-i.i 8 (length-sets_of c.loop-i.i (drop 100 s)) (search rules) (sets_more c.loop-i.i (drop 100 s))))

pub returns : goal.returns
returns c =
    let e : c.loop-i.i ≡ c.args.setcount = omega arith in
    rw e at c.loop-i.invariant.2
