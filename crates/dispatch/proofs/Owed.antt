-- What a call of a second owes, by what refuses it, or by the row that it wrote. Assumes nothing.
use Rattle.std.specs.Prelude.{Ok, Err, Result}
use Prim.Native.Nat.{ℕ, ◌≤◌}
use mathlib.Core.Path.{◌≡◌, refl, sym, ap, ◌∙◌}
use mathlib.Core.List.{List, ◌++◌}
use lib.Dec.{leb, ltb}
use lib.ListN.{length, drop}
use borrow.Author.Tests.{leb-true}
use Rattle.rules.specs.declared.answers.Refusal.{Refusal}
use Rattle.rules.specs.declared.station.Station.{Station}
use Rattle.rules.specs.declared.run.Inputs.{Inputs}
use Rattle.rules.specs.declared.run.Run.{Run}
use Rattle.rules.specs.declared.run.Step.{Step}
use Rattle.rules.specs.Answers.{Answer, accepted, refused, ◌>>◌, judged, number_and_place, refusal_of, result_of}
use Rattle.rules.specs.RunRecord.{most_seconds}
use Rattle.rules.specs.Row.{row_text}
use Rattle.rules.specs.Second.{step, inputs_right, admitted, second, Second}
use Rattle.rules.proofs.Checks.{not-accepted, passed, last-passed, both-passed}
use Rattle.laws.specs.Admitted.{Admitted}
use Rattle.laws.proofs.Kept.{judged-is, admitted_of}

module _ (st : Station) (r : Run) (x : Inputs) (lent : List ℕ) where
  abbrev answer : Answer Step
  answer = second st r x (length lent)

  -- a refused call hands the record back, and leaves the buffer
  pub refused-owes : (why : Refusal) → answer ≡ refusal_of why → Second st r x lent (record { answer = Err why; run = r }) lent
  refused-owes why e = record { answers = rw e; hands = rw e; leaves = rw e }

  pub accepted-owes : (s : Step) (told : Result ℕ Refusal) (left : List ℕ) → answer ≡ accepted (step st r x) → s ≡ step st r x
      → result_of told ≡ accepted (length (row_text s.row)) → left ≡ row_text s.row ++ drop (length (row_text s.row)) lent
      → Second st r x lent (record { answer = told; run = s.run }) left
  accepted-owes s told left e q t l =
      record { answers = rw (e, ← q) t; hands = rw (e, ← q); leaves = rw (e, ← q) l }

  -- by the verdict on it
  module _ (verdict : Result (Unit {0}) Refusal) (is : result_of verdict ≡ judged answer) where
    pub late-refused : (why : Refusal) → verdict ≡ Err why → answer ≡ refusal_of why
    late-refused why e = go answer (sym is ∙ ap result_of e)
      where
        go : (a : Answer Step) → judged a ≡ refusal_of why → a ≡ refusal_of why
        go (accepted s) k = not-accepted _ _ _ (sym k)
        go (refused n p) k = let same : (n ≡ (number_and_place why).0) × (p ≡ (number_and_place why).1) = (cc, cc) in rw (same.0, same.1)

    module _ (e : verdict ≡ Ok tt) where
      whole : Admitted st r x × (answer ≡ accepted (step st r x))
      whole = go answer refl (sym is ∙ ap result_of e)
        where
          go : (a : Answer Step) → answer ≡ a → judged a ≡ accepted tt → Admitted st r x × (answer ≡ accepted (step st r x))
          go (accepted s) k h = let own = admitted_of st r x (length lent) s k in (own.0, k ∙ ap accepted (sym own.1))
          go (refused n p) k h = not-accepted n p tt h

      pub none-refused : answer ≡ accepted (step st r x)
      none-refused = whole.1

      pub is-admitted : Admitted st r x
      is-admitted = whole.0

      -- "row buffer under 256 bytes" is refused
      pub has_room : 256 ≤ length lent
      unfolding admitted
      has_room =
          let asked : (admitted r.done x (length lent) >> accepted (step st r x)) ≡ accepted (step st r x) =
          sym (judged-is st r x (length lent) is-admitted.station-given is-admitted.record-possible) ∙ none-refused
          in
          let a = passed (ltb r.done most_seconds) 23 0 _ tt (both-passed (admitted r.done x (length lent)) _ _ asked).0 in
          let b = passed (inputs_right x) 19 0 _ tt a.1 in
          let c = passed (leb x.sheddable x.load) 20 0 _ tt b.1 in
          leb-true 256 (length lent) (last-passed (leb 256 (length lent)) 26 0 c.1)

-- a verdict on what was asked last is one on the whole
pub judged-last : (a : Answer (Unit {0})) (s : Step) → a ≡ judged (a >> accepted s)
judged-last (accepted u) s = refl
judged-last (refused n p) s = refl
