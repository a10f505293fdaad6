-- Every planned statement of a bounded heap whose doubles are spelled can be read back.
use Rattle.std.proofs.Common.{◌≡◌, ℕ, eqb, List, [], ◌∷◌, ◌++◌, get_or, Ok, Option}
use Rattle.std.specs.List.{AllByRecursion as All}
use Rattle.std.proofs.ByRecursion.{All-append, All-push}
use Rattle.std.proofs.lemmas.Bool.{cond_both}
use Rattle.dump.specs.Heaps.{Heap}
use Rattle.effects.specs.Bounded.{Bounded}
use Rattle.script.specs.Syntax.{circular, form, Stmt, opening, const, last, return}
use Rattle.planner.specs.Names.{pos}
use Rattle.planner.specs.Builds.{built}
use Rattle.planner.specs.Lates.{Late, lates, due}
use Rattle.planner.specs.Lines.{Format, target, has_line, expr_of, late_stmt, all_due, due_at, lines_at, body, wrapped, stmts, spelled_all}
use Rattle.rebuilds.specs.Adequate.{Adequate}
use Rattle.effects.specs.Readable.{ExprReadable, StmtReadable}
use Rattle.readables.proofs.Places.{pos_small}
use Rattle.readables.proofs.Spelled.{HeapSpelled, heap_spelled}
use Rattle.readables.proofs.Writes.{root_writable}
use Rattle.readables.proofs.Exprs.{done_readable, built_readable}
use Rattle.readables.proofs.Follows.{DueWritable, lates_writable, due_writable, expr_readable, late_readable}
use Rattle.effects.specs.Plans.{braced}

module _ (h : Heap) (numeral : ℕ → Option (List ℕ)) (order : List ℕ) (f : Bounded h) (a : Adequate h order) (s : HeapSpelled numeral h) where
  abbrev Dues : List (ℕ × Late) → Type 0
  Dues ds = All (DueWritable numeral h order) ds

  abbrev Stmts : List Stmt → Type 0
  Stmts ss = All (StmtReadable numeral) ss

  -- follow-ups of all objects
  all_due_lem : (os : List ℕ) → Dues (all_due h order os)
  all_due_lem [] = tt
  all_due_lem (o ∷ os) =
      let ih = all_due_lem os in
      let x = target h order o in
      cond_both (has_line h order o) (due h order 0 (lates h order x) ++ all_due h order os) (all_due h order os) Dues
      (λ e. All-append (DueWritable numeral h order) (due h order 0 (lates h order x)) (all_due h order os) (due_writable numeral h order 0 (lates h order x) (lates_writable numeral h order f s x)) ih)
      (λ e. ih)

  due_at_lem : (t : ℕ) (ds : List (ℕ × Late)) → Dues ds → Stmts (due_at h order t ds)
  due_at_lem t [] w = tt
  due_at_lem t (d ∷ ds) w =
      let ih = due_at_lem t ds w.1 in
      cond_both (eqb t d.0) (late_stmt h order d.1 ∷ due_at h order t ds) (due_at h order t ds) Stmts (λ e. (late_readable numeral h order f a s d.1 w.0, ih)) (λ e. ih)

  -- each line, and the follow-ups behind it
  lines_at_lem : (os : List ℕ) → Stmts (lines_at h order os)
  lines_at_lem [] = tt
  lines_at_lem (o ∷ os) =
      let ih = lines_at_lem os in
      let x = pos h order (target h order o) in
      cond_both (has_line h order o) (const (pos h order o) (get_or (built h order) x (form circular)) ∷ (due_at h order (pos h order o) (all_due h order order) ++ lines_at h order os)) (lines_at h order os) Stmts
      (λ e. (
        (pos_small h order f a o, done_readable numeral h order f a (built h order) (built_readable numeral h order f a s) x),
        All-append (StmtReadable numeral) (due_at h order (pos h order o) (all_due h order order)) (lines_at h order os) (due_at_lem (pos h order o) (all_due h order order) (all_due_lem order)) ih,
      ))
      (λ e. ih)

  root_readable : ExprReadable numeral (expr_of h order h.root)
  root_readable = expr_readable numeral h order f a s h.root (root_writable numeral h f s)

  all_stmts : (format : Format) → Stmts (stmts h order format)
  all_stmts format =
      let root = expr_of h order h.root in
      cond_both (wrapped h order format) (opening ∷ (body h order ++ (return root ∷ []))) (body h order ++ (last (braced root) root ∷ [])) Stmts
      (λ e. (tt, All-push (StmtReadable numeral) (body h order) (return root) (lines_at_lem order) root_readable))
      (λ e. All-push (StmtReadable numeral) (body h order) (last (braced root) root) (lines_at_lem order) (root_readable, λ b. b))

-- whatever the format
pub readables : (h : Heap) (numeral : ℕ → Option (List ℕ)) (order : List ℕ) (f : Format) → Bounded h → Adequate h order → spelled_all numeral h ≡ Ok tt → All (StmtReadable numeral) (stmts h order f)
readables h numeral order f formed adequate e = all_stmts h numeral order formed adequate (heap_spelled numeral h e) f
