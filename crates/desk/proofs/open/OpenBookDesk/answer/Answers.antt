use Rattle.std.proofs.Common.{refl, inl, inr}
use Rattle.desk.specs.Done.{left}
use Rattle.desk.proofs.open.OpenBookDesk.answer.Goals as goal

pub returns-in-Line : goal.returns-in-Line
returns-in-Line c = rw c.in-Line.is (left refl)

pub returns-in-YearLine : goal.returns-in-YearLine
returns-in-YearLine c = rw c.in-YearLine.is (left refl)

pub returns-in-Total : goal.returns-in-Total
returns-in-Total c = rw c.in-Total.is (left refl)

pub returns-in-Statement : goal.returns-in-Statement
returns-in-Statement c = rw c.in-Statement.is (left refl)

pub returns-in-Print : goal.returns-in-Print
returns-in-Print c = rw c.in-Print.is (left refl)

pub returns : goal.returns
returns c = elim c.in-Open.is [
  | inl h ↦ rw h.2 (left refl)
  | inr r0 ↦ elim r0 [
    | inl h ↦ rw h.1 (left refl)
    | inr r1 ↦ elim r1 [
      | inl h ↦ rw h.1 (left refl)
      | inr r2 ↦ elim r2 [
        | inl h ↦ rw h.1 (left refl)
        | inr r3 ↦ elim r3 [
          | inl h ↦ rw h.2 (left refl)
          | inr r4 ↦ elim r4 [
            | inl h ↦ rw h.1 (left refl)
            | inr r5 ↦ elim r5 [
              | inl h ↦ rw h.1 (left refl)
              | inr r6 ↦ elim r6 [
                | inl h ↦ rw h.1 (left refl)
                | inr r7 ↦ rw r7.1 (left refl)
              ]
            ]
          ]
        ]
      ]
    ]
  ]
]
