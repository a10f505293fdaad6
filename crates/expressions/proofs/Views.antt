-- The expression of a view that backs no buffer evaluates to a view that stands for it, whichever way it is written.
use Rattle.std.proofs.Common.{◌≡◌, ℕ, ◌+◌, ◌*◌, ◌/◌, ◌%◌, ◌≤◌, Bool, true, false, cond, not, ◌&&◌, ◌||◌, eqb, ltb, List, [], ◌∷◌, length, get_or, is_some, Some, None, Option, sym, refl, ap, ◌∙◌, subst, ⊎_elim, arith}
use Rattle.std.proofs.lemmas.Bool.{cases_Bool, cond_both, cond-false, eqb-true, ne_eqb, both_ways, or_from, not_from_true}
use Rattle.dump.specs.declared.kinds.ViewKind.{ViewKind}
use Rattle.dump.specs.Heaps as heaps
use Rattle.dump.specs.Heaps.{below, object, Heap}
use Rattle.dump.specs.Kinds.{width}
use Rattle.formed.specs.Formed.{ViewFormed}
use Rattle.script.specs.Syntax.{Expr, form, circular, new_typed, typed_part, item, none}
use Rattle.planner.specs.Visits.{object_at, mem}
use Rattle.planner.specs.Names.{count, is_view, view_in, kind_needs_name, pos, turns, uses, inlines, covers, backing, backed, slot, has_name}
use Rattle.planner.specs.Builds.{view_on, subarray_of, name_expr, same_kind, on_named, buffer_expr, kind_expr, object_expr, built}
use Rattle.planner.specs.Lates.{Late}
use Rattle.evaluator.specs.Stores.{State}
use Rattle.evaluator.specs.Isomorphic.{Pairing}
use Rattle.rebuilds.specs.Adequate.{Adequate}
use Rattle.rebuilds.specs.Makes.{one, within, written_by, expr_makes}
use Rattle.rebuilds.specs.Pending.{Store}
use Rattle.rebuilds.specs.Good.{Good, Names}
use Rattle.pending.proofs.Lists.{all2_length}
use Rattle.effects.proofs.Options.{none_some, cases_option}
use Rattle.places.proofs.Objects.{view_formed}
use Rattle.places.proofs.Names.{covers_covered, named_if, on_buffer, Backs, backs}
use Rattle.places.proofs.Builts.{built_at}
use Rattle.counts.proofs.Within.{within_named, within_unnamed}
use Rattle.expressions.proofs.Makes.{Counts, given, to_end_lem, tracks, kind_same}
use Rattle.expressions.proofs.Buffers.{buffer_good}
use Rattle.expressions.proofs.Named.{name_none}
use Rattle.expressions.proofs.Exprs.{content, view_expr_lem, inlined_expr, named_expr}
use Rattle.expressions.proofs.Backing.{covering_good}
use Rattle.expressions.proofs.Over.{recount, view_over}
use Rattle.expressions.proofs.Parts.{part_good, sub_good}
use Rattle.effects.specs.Bounded.{Bounded}

-- a resizable buffer always has a name
resizable_named : (h : Heap) (order : List ℕ) (b : ℕ) (bytes : List ℕ) (m : ℕ) → (object_at h b).kind ≡ heaps.buffer bytes (Some m) → has_name h order b ≡ true
resizable_named h order b bytes m e =
    named_if h order b (ap (λ k. not (kind_needs_name k (length (object_at h b).parts) || turns h order b) && ltb (uses h order b) 2) e)

-- the length of a view on a fixed buffer, and on a resizable one, as it is written
fixed_counts : (k : ViewKind) (offset n size : ℕ) → size % width k ≡ 0 → Counts k offset n false size None (cond (eqb (offset + n * width k) size) None (Some n))
fixed_counts k offset n size even = go (eqb (offset + n * width k) size) refl
  where
    go : (t : Bool) → eqb (offset + n * width k) size ≡ t → Counts k offset n false size None (cond t None (Some n))
    go true e = to_end_lem refl refl even (eqb-true (offset + n * width k) size e)
    go false e = given refl

resizable_counts : (k : ViewKind) (offset n size m : ℕ) (tracking : Bool) → Counts k offset n tracking size (Some m) (cond tracking None (Some n))
resizable_counts k offset n size m true = tracks refl refl
resizable_counts k offset n size m false = given refl

module _ (h : Heap) (f : Bounded h) (order : List ℕ) (ad : Adequate h order) (x b : ℕ) (k : ViewKind) (offset n : ℕ) (tracking : Bool) (bytes : List ℕ) (maximum : Option ℕ)
    (viewed : (object_at h x).kind ≡ heaps.view k offset n tracking) (on : (object_at h x).parts ≡ below b ∷ []) (is_buffer : (object_at h b).kind ≡ heaps.buffer bytes maximum) (here : mem x order ≡ true) where
  -- it writes its buffer
  view_makes : (y : ℕ) → expr_makes h order x y ≡ count y (within h order (b ∷ [])) + one y x
  view_makes y =
      ap (λ z. count y (within h order (written_by h order (slot h order x) z (object_at h x).parts)) + one y x) viewed
      ∙ ap (λ ps. count y (within h order (written_by h order (slot h order x) (heaps.view k offset n tracking) ps)) + one y x) on

  -- which it makes only if that has no name
  named_makes : has_name h order b ≡ true → (y : ℕ) → 0 + one y x ≡ expr_makes h order x y
  named_makes e y = sym (view_makes y ∙ ap (λ z. count y z + one y x) (within_named h order b e))

  inlined_makes : has_name h order b ≡ false → (y : ℕ) → one y b + one y x ≡ expr_makes h order x y
  inlined_makes e y =
      let o = on_buffer h f order ad x b k offset n tracking here viewed on in
      let own : expr_makes h order b y ≡ 0 + one y b = ap (λ z. count y (within h order (written_by h order (slot h order b) z (object_at h b).parts)) + one y b) is_buffer in
      let w = within_unnamed h order b f ad o.member e y in
      let v = view_makes y in
      omega arith

module _ (h : Heap) (f : Bounded h) (order : List ℕ) (ad : Adequate h order) (own : Pairing) (left : ℕ → List Late) (s : State) (t : ℕ) (names : Names h order own t s.names) (store : Store h own left own s.objects) where
  abbrev Evaluates : ℕ → Expr → Type 0
  Evaluates x e = Good h order own s e (object x) (expr_makes h order x)

  -- on a buffer with a name, by that name
  module _ (x b : ℕ) (k : ViewKind) (offset n : ℕ) (tracking : Bool) (bytes : List ℕ) (maximum : Option ℕ)
      (viewed : (object_at h x).kind ≡ heaps.view k offset n tracking) (on : (object_at h x).parts ≡ below b ∷ []) (is_buffer : (object_at h b).kind ≡ heaps.buffer bytes maximum) (here : mem x order ≡ true)
      (aligned : offset % width k ≡ 0) (inside : offset + n * width k ≤ length bytes) (lt : pos h order x ≤ t) where
    on_name : has_name h order b ≡ true → (c : Option ℕ) → Counts k offset n tracking (length bytes) maximum c → Evaluates x (view_on k offset c (item (name_expr h order b) none))
    on_name e c counts =
        let o = on_buffer h f order ad x b k offset n tracking here viewed on in
        let a = o.before in
        let p = o.slot_buffer in
        recount h order own s (view_on k offset c (item (name_expr h order b) none)) (object x) (λ y. 0 + one y x) (expr_makes h order x)
        (named_makes h f order ad x b k offset n tracking bytes maximum viewed on is_buffer here e)
        (view_over h order own s (all2_length store) x b k offset n tracking viewed on bytes maximum c left store is_buffer aligned inside counts (name_expr h order b) (λ y. 0)
        (name_none h f order ad own left s t names store b o.member e (omega arith)))

  -- on a fixed buffer
  module _ (x b : ℕ) (k : ViewKind) (offset n : ℕ) (bytes : List ℕ)
      (viewed : (object_at h x).kind ≡ heaps.view k offset n false) (on : (object_at h x).parts ≡ below b ∷ []) (is_buffer : (object_at h b).kind ≡ heaps.buffer bytes None) (here : mem x order ≡ true)
      (aligned : offset % width k ≡ 0) (even : length bytes % width k ≡ 0) (inside : offset + n * width k ≤ length bytes) (unbacked : backed h order x ≡ None) (lt : pos h order x ≤ t) where
    by_name : has_name h order b ≡ true → Evaluates x (view_on k offset (cond (eqb (offset + n * width k) (length bytes)) None (Some n)) (item (name_expr h order b) none))
    by_name e = on_name x b k offset n false bytes None viewed on is_buffer here aligned inside lt e (cond (eqb (offset + n * width k) (length bytes)) None (Some n)) (fixed_counts k offset n (length bytes) even)

    -- with a backing view: by a part of it, if that is of the same kind
    by_backing : (w : ℕ) → Backs h f order ad b w → Evaluates x (on_named h order x (content k offset n false) b bytes (Some w))
    by_backing w a =
        let o = on_buffer h f order ad x b k offset n false here viewed on in
        let before = o.before in
        let apart : eqb x w ≡ false = ne_eqb x w (λ same. none_some (sym unbacked ∙ ap (backed h order) same ∙ a.backed)) in
        let by = view_on k offset (cond (eqb (offset + n * width k) (length bytes)) None (Some n)) (item (name_expr h order b) none) in
        let sub = subarray_of (slot h order w) (offset / width k) (offset / width k + n) (eqb (offset + n * width k) (length bytes)) in
        let kinds = same_kind h order k (view_in (object_at h w).kind) in
        subst (Evaluates x) (sym (cond-false (eqb x w) (form (new_typed k bytes)) (cond kinds sub by) apart))
        (cond_both kinds sub by (Evaluates x)
        (λ e.
        let same : k ≡ a.kind = kind_same k a.kind (sym (ap (λ z. same_kind h order k (view_in z)) a.view_is) ∙ e) in
        recount h order own s sub (object x) (λ y. one y x) (expr_makes h order x)
        (λ y. let m = named_makes h f order ad x b k offset n false bytes None viewed on is_buffer here a.named_buffer y in omega arith)
        (sub_good h f order own s x b k offset n bytes viewed on is_buffer (ap is_view same ∙ a.typed) aligned even inside ad left t names store w a (sym same) (omega arith)))
        (λ e. by_name a.named_buffer))

    by_named : inlines h order b ≡ false → Evaluates x (object_expr h order (built h order) x)
    by_named i =
        let o = on_buffer h f order ad x b k offset n false here viewed on in
        let by : (w : Option ℕ) → backing h order b ≡ w → Evaluates x (on_named h order x (content k offset n false) b bytes w) → Evaluates x (object_expr h order (built h order) x) =
        λ w e g. subst (Evaluates x) (sym (named_expr h order (built h order) x b k offset n false viewed on bytes w is_buffer i e)) g in
        ⊎_elim (λ (e : backing h order b ≡ None). by None e (by_name (named_if h order b i)))
        (λ (e : (w : ℕ) × (backing h order b ≡ Some w)). by (Some e.0) e.1 (by_backing e.0 (backs h f order ad b e.0 o.member e.1)))
        (cases_option (backing h order b))

    -- with its buffer inside: a typed array over all of it
    covering : covers h order b x ≡ true → Good h order own s (form (new_typed k bytes)) (object x) (λ y. one y b + one y x)
    covering e =
        let c = covers_covered h order b x e in
        let v = sym viewed ∙ c.view_is in
        let same : bytes ≡ c.bytes = let q = sym is_buffer ∙ c.buffer_is in cc in
        let kinds : k ≡ c.kind = cc in
        let start : offset ≡ 0 = cc in
        let many : n ≡ c.n = cc in
        covering_good h f order x b k n bytes (viewed ∙ ap (λ p. heaps.view k p n false) start) on is_buffer
        ((λ i. many i * width (kinds i)) ∙ c.covers ∙ ap length (sym same)) own s (all2_length store)

    -- a part of one, or a DataView on the buffer's own expression
    by_inlined : inlines h order b ≡ true → Evaluates x (object_expr h order (built h order) x)
    by_inlined i =
        let o = on_buffer h f order ad x b k offset n false here viewed on in
        let none_named : has_name h order b ≡ false = or_from (not (inlines h order b)) (is_some (backed h order b)) (not_from_true (inlines h order b) i) (ap is_some o.unbacked) in
        let inner = get_or (built h order) (pos h order b) (form circular) in
        let c = cond (eqb (offset + n * width k) (length bytes)) None (Some n) in
        let start = offset / width k in
        let part = form (typed_part k bytes start (start + n)) in
        let over = view_on k offset c (item inner none) in
        let is : inner ≡ buffer_expr h order b bytes None = built_at h f order ad b o.member ∙ ap (λ z. kind_expr h order (built h order) b (slot h order b) z (object_at h b).parts) is_buffer in
        let P : Expr → Type 0 = λ e. Good h order own s e (object x) (λ y. one y b + one y x) in
        recount h order own s (object_expr h order (built h order) x) (object x) (λ y. one y b + one y x) (expr_makes h order x)
        (inlined_makes h f order ad x b k offset n false bytes None viewed on is_buffer here none_named)
        (subst P (sym (inlined_expr h order (built h order) x b k offset n false viewed on bytes is_buffer i))
        (cond_both (covers h order b x) (form (new_typed k bytes)) (cond (is_view k) part over) P covering
        (λ e. cond_both (is_view k) part over P
        (λ v. part_good h f order own s x b k offset n bytes viewed on is_buffer v aligned even inside (all2_length store))
        (λ v. view_over h order own s (all2_length store) x b k offset n false viewed on bytes None c left store is_buffer aligned inside (fixed_counts k offset n (length bytes) even) inner (λ y. one y b)
        (subst (λ e. Good h order own s e (object b) (λ y. one y b)) (sym is) (buffer_good h f order b bytes None is_buffer own left s store))))))

  -- whatever its buffer is
  module _ (x : ℕ) (k : ViewKind) (offset n : ℕ) (here : mem x order ≡ true) (unbacked : backed h order x ≡ None) (lt : pos h order x ≤ t) where
    by_maximum : (tracking : Bool) → (object_at h x).kind ≡ heaps.view k offset n tracking → (v : ViewFormed h k offset n tracking (object_at h x).parts) → (maximum : Option ℕ) → v.maximum ≡ maximum → Evaluates x (object_expr h order (built h order) x)
    by_maximum tracking e v (Some m) d =
        let is_buffer = v.on_buffer ∙ ap (heaps.buffer v.bytes) d in
        let c = cond tracking None (Some n) in
        subst (Evaluates x) (sym (view_expr_lem h order (built h order) x v.on k offset n tracking e v.part v.bytes (Some m) is_buffer))
        (on_name x v.on k offset n tracking v.bytes (Some m) e v.part is_buffer here v.aligned v.inside lt (resizable_named h order v.on v.bytes m is_buffer) c (resizable_counts k offset n (length v.bytes) m tracking))
    by_maximum true e v None d = absurd (both_ways (is_some v.maximum) (ap is_some d) (v.tracks refl).1)
    by_maximum false e v None d =
        let is_buffer = v.on_buffer ∙ ap (heaps.buffer v.bytes) d in
        ⊎_elim (λ (i : inlines h order v.on ≡ true). by_inlined x v.on k offset n v.bytes e v.part is_buffer here v.aligned v.even v.inside unbacked lt i)
        (λ (i : inlines h order v.on ≡ false). by_named x v.on k offset n v.bytes e v.part is_buffer here v.aligned v.even v.inside unbacked lt i)
        (cases_Bool (inlines h order v.on))

  pub view_good : (x : ℕ) (k : ViewKind) (offset n : ℕ) (tracking : Bool) → mem x order ≡ true → (object_at h x).kind ≡ heaps.view k offset n tracking → backed h order x ≡ None → pos h order x ≤ t →
      Good h order own s (object_expr h order (built h order) x) (object x) (expr_makes h order x)
  view_good x k offset n tracking here e unbacked lt = let v = view_formed h f x k offset n tracking e in by_maximum x k offset n here unbacked lt tracking e v v.maximum refl
