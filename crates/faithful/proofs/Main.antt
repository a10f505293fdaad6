-- The main statement: from the plan to its statements, from each statement to its line, and from the lines to every trace.
use Rattle.std.proofs.Common.{◌≡◌, ℕ, cond, List, Ok, Option, Result, sym, subst}
use Rattle.dump.specs.declared.refusal.Refusal.{Refusal}
use Rattle.dump.specs.Rules.{and_then}
use Rattle.dump.specs.Heaps.{Heap}
use Rattle.formed.proofs.Layouts.{then_ok}
use Rattle.faithful.proofs.Short.{bounded}
use Rattle.planner.specs.Visits.{order}
use Rattle.planner.specs.Lines.{Format, Plan, planned, spelled_all, not_deep, stmts, wrapped}
use Rattle.places.proofs.Orders.{adequate}
use Rattle.readables.proofs.Readables.{readables}
use Rattle.faithful.proofs.Lines.{lines_do}
use Rattle.simulation.proofs.Last.{whole}
use Rattle.faithful.specs.Accepted.{FaithfulAt, BoundedFaithful, AcceptedFaithful}
use Rattle.faithful.proofs.Scripts.{faithful_lines}

-- the lines and the base of a plan, and that every double has its numeral
pub record Planned (numeral : ℕ → Option (List ℕ)) (h : Heap) (f : Format) (p : Plan) : Type 0 where
  pub spelled : spelled_all numeral h ≡ Ok tt
  pub is : p ≡ record { lines = stmts h (order h) f; base = cond (wrapped h (order h) f) 1 0 }

plan_is : (numeral : ℕ → Option (List ℕ)) (h : Heap) (f : Format) (p : Plan) → planned numeral h f ≡ Ok p → Planned numeral h f p
plan_is numeral h f p e =
    let a = then_ok (spelled_all numeral h) (λ _. and_then (not_deep 0 (stmts h (order h) f)) (λ _. Ok (record { lines = stmts h (order h) f; base = cond (wrapped h (order h) f) 1 0 }))) p e in
    let b = then_ok (not_deep 0 (stmts h (order h) f)) (λ _. Ok (record { lines = stmts h (order h) f; base = cond (wrapped h (order h) f) 1 0 })) p a.2 in
    record { spelled = a.1; is = ok b.2 }
  where
    ok : {q : Plan} → ◌≡◌ {A = Result Plan Refusal} (Ok q) (Ok p) → p ≡ q
    ok d = cc

pub faithful : BoundedFaithful
faithful h numeral reading f p formed lawful inverse e =
    let q = plan_is numeral h f p e in
    let ad = adequate h formed in
    let w = whole h formed (order h) ad f in
    subst (λ z. FaithfulAt h numeral reading z) (sym q.is)
    (faithful_lines h numeral reading (record { lines = stmts h (order h) f; base = cond (wrapped h (order h) f) 1 0 })
    (lines_do numeral reading lawful inverse (cond (wrapped h (order h) f) 1 0) (stmts h (order h) f) (readables h numeral (order h) f formed ad q.spelled))
    w.ran w.val w.runs w.result w.same)

pub accepted_faithful : AcceptedFaithful
accepted_faithful b h numeral reading f p bytes v lawful inverse e = faithful h numeral reading f p (bounded b h bytes v) lawful inverse e
