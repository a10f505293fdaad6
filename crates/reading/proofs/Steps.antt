-- Evaluating trees that have no comma among them: lists, braces, arrays, calls and `new` go by the values of their parts.
use Rattle.std.proofs.Common.{◌≡◌, ℕ, false, cond, not, List, [], ◌∷◌, ◌++◌, Some, codes, Option, sym, refl, ap, ◌∙◌}
use Rattle.std.proofs.lemmas.Bool.{or_parts, or_from, cond-false}
use Rattle.dump.specs.Heaps.{Text}
use Rattle.evaluator.specs.Options.{and_then, when}
use Rattle.evaluator.specs.Tokens.{number, string}
use Rattle.evaluator.specs.Trees.{leaf, node, Trees, nil, cons}
use Rattle.evaluator.specs.Stores as stores
use Rattle.evaluator.specs.Stores.{Val, ordinary, Slot, State, Made, made, make, with_key}
use Rattle.evaluator.specs.Makes.{is, construct, buffer_of, call}
use Rattle.evaluator.specs.Commands.{is_mark}
use Rattle.evaluator.specs.Runs as runs
use Rattle.evaluator.specs.Runs.{Partial, nothing, got, Listed, Stepped, stepped, of_made, word_value, all_vals, only_val, has_comma, bracket, braced, want_key, in_value, Braced, reading_of, end_value, number_value, eval_tree, eval_list, eval_braces, evaluate}
use Rattle.effects.specs.Effects.{array_made}
use Rattle.reading.specs.Trees.{append_t, one, comma, word_tree, new_trees, member}
use Rattle.reading.specs.Steps.{has_mark, eval_trees}
use Rattle.effects.proofs.Options.{some_is, taken}
use Rattle.reading.proofs.Grown.{append-nil}

pub mark_append : (c : ℕ) (ts us : Trees) → has_mark c ts ≡ false → has_mark c us ≡ false → has_mark c (append_t ts us) ≡ false
mark_append c nil us a b = b
mark_append c (cons t ts) us a b = let p = or_parts (is_mark c t) (has_mark c ts) a in or_from (is_mark c t) (has_mark c (append_t ts us)) p.0 (mark_append c ts us p.1 b)

pub no_comma : (ts : Trees) → has_mark 44 ts ≡ false → has_comma ts ≡ false
no_comma nil a = refl
no_comma (cons t ts) a = let p = or_parts (is_mark 44 t) (has_mark 44 ts) a in or_from (is_mark 44 t) (has_comma ts) p.0 (no_comma ts p.1)

module _ (reading : List ℕ → Option ℕ) where
  -- trees in a list, and in braces
  list_past : (ts rest : Trees) (p : Partial) (vs : List (Option Val)) (s : State) (x : Stepped) → has_mark 44 ts ≡ false → eval_trees reading ts p s ≡ Some x
      → eval_list reading (append_t ts rest) p vs s ≡ eval_list reading rest x.partial vs x.after
  list_past nil rest p vs s x n e = ap (λ z. eval_list reading rest z.partial vs z.after) (some_is e)
  list_past (cons t ts) rest p vs s x n e =
      let q = or_parts (is_mark 44 t) (has_mark 44 ts) n in
      let y = taken (eval_tree reading t p s) _ x e in
      ap (λ z. and_then z (λ r. eval_list reading (append_t ts rest) r.now_partial r.done r.then_after)) (cond-false (is_mark 44 t) (runs.comma p vs s) (reading_of vs (eval_tree reading t p s)) q.0 ∙ ap (reading_of vs) y.1)
      ∙ list_past ts rest y.0.partial vs y.0.after x q.1 y.2

  braces_past : (ts rest : Trees) (k : Text) (p : Partial) (ss : List Slot) (s : State) (x : Stepped) → has_mark 44 ts ≡ false → eval_trees reading ts p s ≡ Some x
      → eval_braces reading (append_t ts rest) (in_value k p) ss s ≡ eval_braces reading rest (in_value k x.partial) ss x.after
  braces_past nil rest k p ss s x n e = ap (λ z. eval_braces reading rest (in_value k z.partial) ss z.after) (some_is e)
  braces_past (cons t ts) rest k p ss s x n e =
      let q = or_parts (is_mark 44 t) (has_mark 44 ts) n in
      let y = taken (eval_tree reading t p s) _ x e in
      ap (λ z. and_then z (λ b. eval_braces reading (append_t ts rest) b.keying b.slots b.so_far))
      (cond-false (is_mark 44 t) (end_value k p ss s) (and_then (eval_tree reading t p s) (λ r. runs.braces (in_value k r.partial) ss r.after)) q.0 ∙ ap (λ z. and_then z (λ r. runs.braces (in_value k r.partial) ss r.after)) y.1)
      ∙ braces_past ts rest k y.0.partial ss y.0.after x q.1 y.2

  trees_past : (ts rest : Trees) (p : Partial) (s : State) (x : Stepped) → eval_trees reading ts p s ≡ Some x → eval_trees reading (append_t ts rest) p s ≡ eval_trees reading rest x.partial x.after
  trees_past nil rest p s x e = ap (λ z. eval_trees reading rest z.partial z.after) (some_is e)
  trees_past (cons t ts) rest p s x e =
      let y = taken (eval_tree reading t p s) _ x e in
      ap (λ z. and_then z (λ r. eval_trees reading (append_t ts rest) r.partial r.after)) y.1 ∙ trees_past ts rest y.0.partial y.0.after x y.2

  -- these trees are one value, and no comma stands among them
  pub record Gives (ts : Trees) (s : State) (m : Made) : Type 0 where
    pub free : has_mark 44 ts ≡ false
    pub evals : eval_trees reading ts nothing s ≡ of_made (Some m)

  -- a value and a comma; the last value
  pub give_comma : (ts rest : Trees) (vs : List (Option Val)) (s : State) (m : Made) → Gives ts s m → eval_list reading (append_t ts (cons comma rest)) nothing vs s ≡ eval_list reading rest nothing (vs ++ (Some m.val ∷ [])) m.state
  give_comma ts rest vs s m g = list_past ts (cons comma rest) nothing vs s (record { partial = got m.val; after = m.state }) g.free g.evals

  pub give_last : (ts : Trees) (vs : List (Option Val)) (s : State) (m : Made) → Gives ts s m → eval_list reading ts nothing vs s ≡ Some (record { vals = vs ++ (Some m.val ∷ []); state = m.state })
  give_last ts vs s m g = ap (λ z. eval_list reading z nothing vs s) (sym (append-nil ts)) ∙ list_past ts nil nothing vs s (record { partial = got m.val; after = m.state }) g.free g.evals

  -- a value in braces, with a comma and without
  pub brace_comma : (ts rest : Trees) (k : Text) (ss : List Slot) (s : State) (m : Made) → Gives ts s m
      → eval_braces reading (append_t ts (cons comma rest)) (in_value k nothing) ss s ≡ eval_braces reading rest want_key (with_key k m.val ss) m.state
  brace_comma ts rest k ss s m g = braces_past ts (cons comma rest) k nothing ss s (record { partial = got m.val; after = m.state }) g.free g.evals

  pub brace_last : (ts : Trees) (k : Text) (ss : List Slot) (s : State) (m : Made) → Gives ts s m
      → eval_braces reading ts (in_value k nothing) ss s ≡ Some (record { made_slots = with_key k m.val ss; then_state = m.state })
  brace_last ts k ss s m g =
      ap (λ z. eval_braces reading z (in_value k nothing) ss s) (sym (append-nil ts)) ∙ braces_past ts nil k nothing ss s (record { partial = got m.val; after = m.state }) g.free g.evals

  -- a value, before more
  pub give_then : (ts rest : Trees) (s : State) (m : Made) → Gives ts s m → eval_trees reading (append_t ts rest) nothing s ≡ eval_trees reading rest (got m.val) m.state
  give_then ts rest s m g = trees_past ts rest nothing s (record { partial = got m.val; after = m.state }) g.evals

  -- one expression
  pub give_whole : (ts : Trees) (s : State) (m : Made) → Gives ts s m → evaluate reading ts s ≡ Some m
  give_whole ts s m g =
      ap (λ b. when (not b) (and_then (eval_list reading ts nothing [] s) (λ l. and_then (only_val l.vals) (λ v. made v l.state)))) (no_comma ts g.free)
      ∙ ap (λ z. and_then z (λ l. and_then (only_val l.vals) (λ v. made v l.state))) (give_last ts [] s m g)

  -- words, numbers, texts
  pub give_number : (t : List ℕ) (v : Val) (s : State) → number_value reading t ≡ Some v → Gives (one (leaf (number t))) s (record { val = v; state = s })
  give_number t v s e = record { free = refl; evals = ap (λ z. and_then (and_then z (λ u. stepped (got u) s)) (λ x. stepped x.partial x.after)) e }

  pub give_string : (t : Text) (s : State) → Gives (one (leaf (string t))) s (record { val = stores.text t; state = s })
  give_string t s = record { free = refl; evals = refl }

  pub give_word : (w : List ℕ) (v : Val) (s : State) → is w (codes "new") ≡ false → word_value w s ≡ Some v → Gives (one (word_tree w)) s (record { val = v; state = s })
  give_word w v s n e =
      record {
        free = refl;
        evals =
            ap (λ b. and_then (cond b (stepped runs.new_word s) (and_then (word_value w s) (λ u. stepped (got u) s))) (λ x. stepped x.partial x.after)) n
            ∙ ap (λ z. and_then (and_then z (λ u. stepped (got u) s)) (λ x. stepped x.partial x.after)) e;
      }

  -- arrays and braces
  pub give_array : (inner : Trees) (s : State) (l : Listed) (m : Made) → eval_list reading inner nothing [] s ≡ Some l → array_made l.vals l.state ≡ Some m → Gives (one (node 91 inner)) s m
  give_array inner s l m e d =
      record {
        free = refl;
        evals =
            ap (λ z. and_then (and_then z (λ x. bracket nothing 91 (has_comma inner) x.vals x.state)) (λ x. stepped x.partial x.after)) e
            ∙ ap (λ z. and_then (of_made z) (λ x. stepped x.partial x.after)) d;
      }

  -- an expression in brackets
  pub give_round : (ts : Trees) (s : State) (m : Made) → Gives ts s m → Gives (one (node 40 ts)) s m
  give_round ts s m g =
      record {
        free = refl;
        evals =
            ap (λ z. and_then (and_then z (λ x. bracket nothing 40 (has_comma ts) x.vals x.state)) (λ x. stepped x.partial x.after)) (give_last ts [] s m g)
            ∙ ap (λ b. and_then (when (not b) (stepped (got m.val) m.state)) (λ x. stepped x.partial x.after)) (no_comma ts g.free);
      }

  pub give_braces : (inner : Trees) (s : State) (b : Braced) (m : Made) → eval_braces reading inner want_key [] s ≡ Some b → make ordinary b.made_slots b.then_state ≡ Some m → Gives (one (node 123 inner)) s m
  give_braces inner s b m e d =
      record {
        free = refl;
        evals =
            ap (λ z. and_then (and_then z (λ x. braced nothing x.made_slots x.then_state)) (λ x. stepped x.partial x.after)) e
            ∙ ap (λ z. and_then (of_made z) (λ x. stepped x.partial x.after)) d;
      }

  -- new W(..), before more
  pub step_new : (w : List ℕ) (args rest : Trees) (s : State) (l : Listed) (us : List Val) (m : Made) → eval_list reading args nothing [] s ≡ Some l → all_vals l.vals ≡ Some us → construct w us l.state ≡ Some m
      → eval_trees reading (new_trees w args rest) nothing s ≡ eval_trees reading rest (got m.val) m.state
  step_new w args rest s l us m e a c =
      ap (λ z. and_then (and_then z (λ x. bracket (runs.new_of w) 40 (has_comma args) x.vals x.state)) (λ x. eval_trees reading rest x.partial x.after)) e
      ∙ (ap (λ z. and_then (and_then z (λ vs. of_made (construct w vs l.state))) (λ x. eval_trees reading rest x.partial x.after)) a
      ∙ ap (λ z. and_then (of_made z) (λ x. eval_trees reading rest x.partial x.after)) c)

  pub give_new : (w : List ℕ) (args : Trees) (s : State) (l : Listed) (us : List Val) (m : Made) → eval_list reading args nothing [] s ≡ Some l → all_vals l.vals ≡ Some us → construct w us l.state ≡ Some m → Gives (new_trees w args nil) s m
  give_new w args s l us m e a c = record { free = refl; evals = step_new w args nil s l us m e a c }

  -- v.buffer, and v.w(..)
  pub step_buffer : (v : Val) (s : State) (m : Made) → buffer_of v s ≡ Some m → eval_trees reading (member (codes "buffer") nil) (got v) s ≡ of_made (Some m)
  step_buffer v s m e = ap (λ z. and_then (of_made z) (λ x. stepped x.partial x.after)) e

  pub step_call : (w : List ℕ) (args : Trees) (v : Val) (s : State) (l : Listed) (us : List Val) (m : Made) → is w (codes "buffer") ≡ false → eval_list reading args nothing [] s ≡ Some l → all_vals l.vals ≡ Some us → call w v us l.state ≡ Some m
      → eval_trees reading (member w (one (node 40 args))) (got v) s ≡ of_made (Some m)
  step_call w args v s l us m n e a c =
      ap (λ b. and_then (cond b (of_made (buffer_of v s)) (stepped (runs.method v w) s)) (λ x. eval_trees reading (one (node 40 args)) x.partial x.after)) n
      ∙ (ap (λ z. and_then (and_then z (λ x. bracket (runs.method v w) 40 (has_comma args) x.vals x.state)) (λ x. stepped x.partial x.after)) e
      ∙ (ap (λ z. and_then (and_then z (λ vs. of_made (call w v vs l.state))) (λ x. stepped x.partial x.after)) a
      ∙ ap (λ z. and_then (of_made z) (λ x. stepped x.partial x.after)) c))
