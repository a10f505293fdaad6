-- Lines that do what their statements do run, and rebuild what the statements rebuild.
use Rattle.std.proofs.Common.{◌≡◌, ℕ, Bool, true, false, not, List, [], ◌∷◌, ◌++◌, map, is_some, Some, None, Option, sym, refl, ap, ◌∙◌, subst, arith}
use Rattle.std.specs.List.{AllByRecursion as All}
use Rattle.std.proofs.ByRecursion.{All-map, All-weaker}
use Rattle.dump.specs.Heaps.{Heap}
use Rattle.script.specs.Items.{Line, line}
use Rattle.script.specs.Syntax.{Stmt}
use Rattle.script.specs.Texts.{stmt_items}
use Rattle.planner.specs.Lines.{Plan}
use Rattle.evaluator.specs.Options.{and_then, when}
use Rattle.evaluator.specs.Stores.{Val, start}
use Rattle.evaluator.specs.Commands.{Ran}
use Rattle.evaluator.specs.Runs.{run_line, run_lines, run}
use Rattle.evaluator.specs.Isomorphic.{Isomorphic}
use Rattle.effects.specs.Effects.{stmt_done, stmts_done}
use Rattle.traces.specs.Theorem.{texts_of, bytes_in, IsAll}
use Rattle.faithful.specs.Accepted.{FaithfulAt}
use Rattle.faithful.specs.Runs.{Runs, LineDoes}
use Rattle.faithful.proofs.Traces.{faithful_from}

-- what was not stuck: each half
then_some : {A B : Type 0} (o : Option A) (f : A → Option B) (b : B) → and_then o f ≡ Some b → (a : A) × (o ≡ Some a) × (f a ≡ Some b)
then_some (Some a) f b e = (a, refl, e)
then_some None f b e = absurd (let z : ◌≡◌ {A = ℕ} 0 1 = cc in omega arith)

-- a step that a test allows: another that does as much is allowed too
when_some : {A : Type 0} (t : Bool) (o u : Option A) (a : A) → (o ≡ Some a → u ≡ Some a) → when t o ≡ Some a → when t u ≡ Some a
when_some true o u a f e = f e
when_some false o u a f e = absurd (let z : ◌≡◌ {A = ℕ} 0 1 = cc in omega arith)

module _ (reading : List ℕ → Option ℕ) where
  -- lines that run, run up to any line
  pub prefix_runs : (before after : List (List ℕ)) (s r : Ran) → run_lines reading (before ++ after) s ≡ Some r → (t : Ran) × (run_lines reading before s ≡ Some t)
  prefix_runs [] after s r e = (s, refl)
  prefix_runs (l ∷ ls) after s r e =
      let step = then_some (when (not (is_some s.result)) (run_line reading l s.state)) (run_lines reading (ls ++ after)) r e in
      let rest = prefix_runs ls after step.0 r step.2 in
      (rest.0, ap (λ x. and_then x (run_lines reading ls)) step.1 ∙ rest.1)

module _ (numeral : ℕ → Option (List ℕ)) (reading : List ℕ → Option ℕ) (base : ℕ) where
  -- the lines of statements
  abbrev pub texts : List Stmt → List Line
  texts ss = texts_of numeral (record { lines = ss; base = base })

  pub lines_all : (ss : List Stmt) → All (LineDoes numeral reading base) ss → All IsAll (texts ss)
  lines_all ss each = All-map IsAll (λ s. line numeral (stmt_items base s)) ss (All-weaker (LineDoes numeral reading base) (λ s. IsAll (line numeral (stmt_items base s))) (λ s d. subst IsAll (sym d.1) tt) ss each)

  -- lines run as their statements do
  pub lines_run : (ss : List Stmt) → All (LineDoes numeral reading base) ss → (s r : Ran) → stmts_done ss s ≡ Some r → run_lines reading (map bytes_in (texts ss)) s ≡ Some r
  lines_run [] each s r e = e
  lines_run (x ∷ xs) each s r e =
      let does = each.0 in
      let step = then_some (when (not (is_some s.result)) (stmt_done x s.state)) (stmts_done xs) r e in
      let first : when (not (is_some s.result)) (run_line reading (bytes_in (line numeral (stmt_items base x))) s.state) ≡ Some step.0 =
      subst (λ (l : Line). when (not (is_some s.result)) (run_line reading (bytes_in l) s.state) ≡ Some step.0) (sym does.1) (when_some (not (is_some s.result)) (stmt_done x s.state) (run_line reading does.0 s.state) step.0 (does.2 s.state step.0) step.1) in
      ap (λ o. and_then o (run_lines reading (map bytes_in (texts xs)))) first ∙ lines_run xs each.1 step.0 r step.2

  -- lines of statements that rebuild a heap rebuild it, and every prefix of them runs
  pub lines_rebuild : (h : Heap) (ss : List Stmt) → All (LineDoes numeral reading base) ss → (r : Ran) (v : Val)
      → stmts_done ss (record { state = start; result = None }) ≡ Some r → r.result ≡ Some v → Isomorphic h r.state v
      → All IsAll (texts ss) × Runs h reading (map bytes_in (texts ss))
  lines_rebuild h ss each r v done result same =
      let runs : run reading (map bytes_in (texts ss)) ≡ Some r = lines_run ss each (record { state = start; result = None }) r done in (
        lines_all ss each,
        record {
          prefix = λ before after e. prefix_runs reading before after (record { state = start; result = None }) r (subst (λ x. run reading x ≡ Some r) e runs);
          whole = λ q ends. (let one : r ≡ q = cc in subst (λ (x : Ran). (w : Val) × (x.result ≡ Some w) × Isomorphic h x.state w) one (v, result, same));
        },
      )

-- a plan whose lines do what its statements do, and whose statements rebuild the heap, is delivered faithfully
pub faithful_lines : (h : Heap) (numeral : ℕ → Option (List ℕ)) (reading : List ℕ → Option ℕ) (p : Plan) → All (LineDoes numeral reading p.base) p.lines → (r : Ran) (v : Val)
    → stmts_done p.lines (record { state = start; result = None }) ≡ Some r → r.result ≡ Some v → Isomorphic h r.state v
    → FaithfulAt h numeral reading p
faithful_lines h numeral reading p each r v done result same =
    let rebuilt = lines_rebuild numeral reading p.base h p.lines each r v done result same in
    faithful_from h numeral reading p rebuilt.0 rebuilt.1
