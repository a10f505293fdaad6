-- A view behind new objects, and a view on what an expression gives.
use Rattle.std.proofs.Common.{◌≡◌, ℕ, ◌+◌, ◌*◌, ◌%◌, ◌≤◌, Bool, cond, not, ◌&&◌, eqb, List, [], ◌∷◌, ◌++◌, length, is_some, Some, None, Option, sym, refl, ap, ◌∙◌, subst, append_assoc, arith, length-append}
use Rattle.dump.specs.declared.kinds.ViewKind.{ViewKind}
use Rattle.dump.specs.Heaps as heaps
use Rattle.dump.specs.Heaps.{Value, below, object, Heap}
use Rattle.dump.specs.Kinds.{width}
use Rattle.script.specs.Syntax.{Expr, item, none}
use Rattle.planner.specs.Visits.{object_at}
use Rattle.planner.specs.Builds as builds
use Rattle.planner.specs.Lates.{Late, lates}
use Rattle.evaluator.specs.Options.{and_then, nth}
use Rattle.evaluator.specs.Stores.{ref, view, single, Obj, State, made, make}
use Rattle.evaluator.specs.Makes.{place_view, view_on}
use Rattle.evaluator.specs.Isomorphic.{Pairing}
use Rattle.effects.specs.Effects.{grown, offset_of, expr_made}
use Rattle.rebuilds.specs.Makes.{one}
use Rattle.rebuilds.specs.Pending.{a_nil, a_cons, Store, occ}
use Rattle.rebuilds.specs.Good.{Good}
use Rattle.pending.proofs.Lists.{all2_length, all2-++, all2_map, all2_at}
use Rattle.pending.proofs.Grows.{Ext, ext_append, store_ext}
use Rattle.pending.proofs.Stores.{occ-++}
use Rattle.expressions.proofs.Stores.{nth_beyond, Sized, buffered, view_pending}
use Rattle.expressions.proofs.Makes.{Counts, placed, offset_is, buffer_at_lem}

-- the same count, told otherwise
pub recount : (h : Heap) (order : List ℕ) (own : Pairing) (s : State) (e : Expr) (v : Value) (makes makes' : ℕ → ℕ) → ((y : ℕ) → makes y ≡ makes' y) → Good h order own s e v makes → Good h order own s e v makes'
recount h order own s e v makes makes' same g = record { new = g.new; adds = g.adds; val = g.val; runs = g.runs; objects = g.objects; says = g.says; counts = λ y. g.counts y ∙ same y }

module _ (h : Heap) (order : List ℕ) (own : Pairing) (s : State) (len : length own ≡ length s.objects) (x b : ℕ) (k : ViewKind) (offset n : ℕ) (tracking : Bool) (viewed : (object_at h x).kind ≡ heaps.view k offset n tracking) (on : (object_at h x).parts ≡ below b ∷ []) where
  -- a view behind new objects, of which one may be its buffer
  pub push_view : (adds : Pairing) (new : List Obj) (q : ℕ) (e : Expr) (makes : ℕ → ℕ) → Store h (own ++ adds) (lates h order) adds new → nth (own ++ adds) q ≡ Some (Some b) →
      expr_made e s ≡ make (view k offset (cond tracking None (Some n))) (single (ref q) ∷ []) (grown s new) → ((y : ℕ) → occ y adds ≡ makes y) →
      Good h order own s e (object x) (λ y. makes y + one y x)
  push_view adds new q e makes st stands runs counts =
      let added : Obj = record { shape = view k offset (cond tracking None (Some n)); slots = single (ref q) ∷ [] } in
      let all = own ++ (adds ++ (Some x ∷ [])) in
      let same = append_assoc own adds (Some x ∷ []) in
      let more : Ext (own ++ adds) all = subst (λ ps. Ext (own ++ adds) ps) same (ext_append (own ++ adds) (Some x ∷ [])) in
      let place : length (own ++ adds) ≡ length (s.objects ++ new) = length-append own adds ∙ omega (arith, length-append s.objects new, all2_length st) in
      record {
        new = new ++ (added ∷ []);
        adds = adds ++ (Some x ∷ []);
        val = ref (length (s.objects ++ new));
        runs = runs ∙ ap (λ xs. made (ref (length (s.objects ++ new))) (record { objects = xs; names = s.names })) (append_assoc s.objects new (added ∷ []));
        objects = all2-++ (store_ext (own ++ adds) all more h (lates h order) st) (a_cons (view_pending h all (lates h order x) x k offset n tracking b q viewed on (more q (Some b) stands)) a_nil);
        says = (length (s.objects ++ new), refl, ap (λ ps. nth ps (length (s.objects ++ new))) (sym same) ∙ nth_beyond (own ++ adds) (Some x ∷ []) (length (s.objects ++ new)) 0 (length (s.objects ++ new)) place (omega arith));
        counts = λ y. omega (arith, occ-++ y adds (Some x ∷ []), counts y);
      }

  -- new K(e, ..), where e gives the buffer
  pub view_over : (bytes : List ℕ) (maximum c : Option ℕ) (left : ℕ → List Late) → Store h own left own s.objects → (object_at h b).kind ≡ heaps.buffer bytes maximum →
      offset % width k ≡ 0 → offset + n * width k ≤ length bytes → Counts k offset n tracking (length bytes) maximum c →
      (e : Expr) (makes : ℕ → ℕ) → Good h order own s e (object b) makes → Good h order own s (builds.view_on k offset c (item e none)) (object x) (λ y. makes y + one y x)
  view_over bytes maximum c left store kb aligned inside counts e makes g =
      let q = g.says.0 in
      let stands = g.says.2 in
      let all = all2-++ (all2_map (buffered h own left) store) (all2_map (buffered h (own ++ g.adds) (lates h order)) g.objects) in
      let at = all2_at all q (Some b) stands in
      let z : Sized h bytes maximum at.0 = at.2 bytes maximum kb in
      let size = z.size in
      push_view g.adds g.new q (builds.view_on k offset c (item e none)) makes g.objects stands
      (ap (λ o. and_then o (λ m. view_on k m.val (offset_of (cond (eqb offset 0 && not (is_some c)) None (Some offset))) c m.state)) g.runs
      ∙ ap (λ p. view_on k g.val p c (grown s g.new)) (offset_is offset c)
      ∙ ap (λ v. view_on k v offset c (grown s g.new)) g.says.1
      ∙ ap (λ o. and_then o (λ m. place_view k (ref q) offset c m (grown s g.new))) (buffer_at_lem (grown s g.new) q at.0 z.held maximum at.1 z.shape)
      ∙ placed k offset n tracking (ref q) z.held maximum c (grown s g.new) aligned (omega arith) (subst (λ l. Counts k offset n tracking l maximum c) (sym size) counts))
      g.counts
