-- The expression of each object is readable if those before it are, so all are.
use Rattle.std.proofs.Common.{◌≡◌, ℕ, ◌+◌, ◌*◌, ◌/◌, Bool, true, false, cond, ◌&&◌, eqb, List, [], ◌∷◌, ◌++◌, length, get_or, take, is_some, Some, None, Option, sym, refl, ap, subst, div-le_self, arith, eqb-true}
use Rattle.std.specs.List.{AllByRecursion as All}
use Rattle.std.proofs.ByRecursion.{All-take, All-push}
use Rattle.std.proofs.lemmas.Bool.{and_parts, both_ways, cond_both}
use Rattle.dump.specs.declared.kinds.ViewKind.{ViewKind}
use Rattle.dump.specs.Kinds.{width}
use Rattle.dump.specs.Heaps as heaps
use Rattle.dump.specs.Heaps.{Value, Kind, buffer, view, Part, property, element, entry, member, below, cause, Heap}
use Rattle.formed.specs.Formed.{MaximumFits, MemberFormed, KindFormed, PartsFormed}
use Rattle.effects.specs.Bounded.{Bounded}
use Rattle.script.specs.Syntax.{named, buffer_of_named, circular, buffer_form, data_buffer, new_typed, typed_part, subarray, view_group, Expr, form, Items, none, item, pair}
use Rattle.script.specs.Texts.{all_zero}
use Rattle.planner.specs.Visits.{edges_of, edges, object_at}
use Rattle.planner.specs.Names.{ViewContent, view_in, buffer_in, is_view, first, pos, inlines, covers, backing, slot, has_name, ready_before, data_kind}
use Rattle.planner.specs.Builds.{view_on, subarray_of, name_expr, value_expr, child_expr, element_items, items_of, buffer_expr, same_kind, on_named, on_inlined, view_by, view_expr, kind_expr, object_expr, build_all, built}
use Rattle.planner.specs.Lines.{kind_unspelled}
use Rattle.rebuilds.specs.Adequate.{Adequate}
use Rattle.effects.specs.Readable.{Small, MaybeSmall, Data, NoHole, FormReadable, GroupReadable, ExprReadable, ItemsReadable}
use Rattle.readables.specs.Writable.{Writable, ElementWritable, PartWritable}
use Rattle.readables.proofs.Places.{slot_small}
use Rattle.readables.proofs.Spelled.{spelled, HeapSpelled}
use Rattle.effects.proofs.Objects.{all_rows, formed_at}
use Rattle.readables.proofs.Writes.{parts_at, kind_at_lem}
use Rattle.readables.proofs.Bytes.{FirstOk, first_ok, ViewFits, BytesFormed, bytes_data, fits_count, bytes_formed, view_formed, kind_data, covers_view}

module _ (numeral : ℕ → Option (List ℕ)) where
  -- an offset is left out only with the length
  view_on_readable : (k : ViewKind) (offset : ℕ) (n : Option ℕ) (is : Items) → Small offset → MaybeSmall n → ItemsReadable numeral is → ExprReadable numeral (view_on k offset n is)
  view_on_readable k offset None is l m r =
      (cond_both (eqb offset 0 && true) None (Some offset) (λ z. GroupReadable numeral (view_group k z None)) (λ e. tt) (λ e. (l, tt)), r, tt)
  view_on_readable k offset (Some n) is l m r = (
    cond_both (eqb offset 0 && false) None (Some offset) (λ z. GroupReadable numeral (view_group k z (Some n)))
        (λ e. absurd (both_ways false refl (and_parts (eqb offset 0) false e).1)) (λ e. (l, m)),
    r,
    tt,
  )

  -- an end is written only behind a start
  subarray_readable : (n start end : ℕ) (to_end : Bool) → Small n → Small start → Small end → ExprReadable numeral (subarray_of n start end to_end)
  subarray_readable n start end true s a b = cond_both (eqb start 0) None (Some start) (λ z. FormReadable numeral (subarray n z None)) (λ e. s) (λ e. (s, a, tt))
  subarray_readable n start end false s a b = (s, a, b)

  maybe_small : (b : Bool) (n : ℕ) → Small n → MaybeSmall (cond b None (Some n))
  maybe_small b n l = cond_both b None (Some n) MaybeSmall (λ e. tt) (λ e. l)

  module _ (h : Heap) (order : List ℕ) (f : Bounded h) (a : Adequate h order) where
    -- a name is small
    pub name_readable : (o : ℕ) → ExprReadable numeral (name_expr h order o)
    name_readable o =
        cond_both (is_some (backing h order o)) (form (buffer_of_named (slot h order o))) (form (named (slot h order o))) (ExprReadable numeral)
        (λ e. slot_small h order f a o) (λ e. slot_small h order f a o)

    -- a buffer's backing view covers it
    backing_ok : (b : ℕ) → FirstOk (covers h order b) (backing h order b)
    backing_ok b = cond_both (inlines h order b) None (first (covers h order b) order) (FirstOk (covers h order b)) (λ e. tt) (λ e. first_ok (covers h order b) order)

    module _ (done : List Expr) (before : All (ExprReadable numeral) done) where
      -- any of the expressions before, or the placeholder past the last
      pub done_readable : (i : ℕ) → ExprReadable numeral (get_or done i (form circular))
      done_readable i = all_rows (ExprReadable numeral) done i (form circular) tt before

      -- the expression of a value that may be written
      pub value_readable : (v : Value) → Writable numeral v → ExprReadable numeral (value_expr h order done v)
      value_readable heaps.undefined w = tt
      value_readable heaps.null w = tt
      value_readable heaps.hole w = w
      value_readable (heaps.boolean b) w = tt
      value_readable (heaps.whole z) w = w
      value_readable (heaps.double bits) w = w
      value_readable (heaps.bigint t) w = w
      value_readable (heaps.text t) w = w
      value_readable (heaps.object o) w =
          cond_both (has_name h order o) (name_expr h order o) (get_or done (pos h order o) (form circular)) (ExprReadable numeral) (λ e. name_readable o) (λ e. done_readable (pos h order o))

      child_readable : (t : ℕ) (v : Value) → Writable numeral v → ExprReadable numeral (child_expr h order done t v)
      child_readable t v w = cond_both (ready_before h order t v) (value_expr h order done v) (form circular) (ExprReadable numeral) (λ e. value_readable v w) (λ e. tt)

      element_readable : (t : ℕ) (v : Value) (is : Items) → ElementWritable numeral v → ItemsReadable numeral is → ItemsReadable numeral (element_items h order done t v is)
      element_readable t heaps.undefined is w r = (tt, r)
      element_readable t heaps.null is w r = (tt, r)
      element_readable t heaps.hole is w r = r
      element_readable t (heaps.boolean b) is w r = (tt, r)
      element_readable t (heaps.whole z) is w r = (w, r)
      element_readable t (heaps.double bits) is w r = (w, r)
      element_readable t (heaps.bigint s) is w r = (w, r)
      element_readable t (heaps.text s) is w r = (w, r)
      element_readable t (heaps.object o) is w r = (child_readable t (heaps.object o) tt, r)

      items_readable : (t : ℕ) (ps : List Part) → All (PartWritable numeral) ps → ItemsReadable numeral (items_of h order done t ps)
      items_readable t [] w = tt
      items_readable t (property k v ∷ ps) w = (w.0.0, child_readable t v w.0.1, items_readable t ps w.1)
      items_readable t (element v ∷ ps) w = element_readable t v (items_of h order done t ps) w.0 (items_readable t ps w.1)
      items_readable t (entry k v ∷ ps) w =
          cond_both (ready_before h order t k && ready_before h order t v) (pair (value_expr h order done k) (value_expr h order done v) (items_of h order done t ps)) none (ItemsReadable numeral)
          (λ e. (value_readable k w.0.0, value_readable v w.0.1, items_readable t ps w.1)) (λ e. tt)
      items_readable t (member v ∷ ps) w =
          cond_both (ready_before h order t v) (item (value_expr h order done v) (items_of h order done t ps)) none (ItemsReadable numeral)
          (λ e. (value_readable v w.0, items_readable t ps w.1)) (λ e. tt)
      items_readable t (below o ∷ ps) w = tt
      items_readable t (cause v ∷ ps) w =
          cond_both (ready_before h order t v) (item (value_expr h order done v) (items_of h order done t ps)) none (ItemsReadable numeral)
          (λ e. (value_readable v w.0, items_readable t ps w.1)) (λ e. tt)

      -- members write no hole
      members_full : (t n : ℕ) (ps : List Part) → All (MemberFormed n) ps → NoHole (items_of h order done t ps)
      members_full t n [] m = tt
      members_full t n (p ∷ ps) m =
          subst (λ z. NoHole (items_of h order done t (z ∷ ps))) (sym m.0.1)
          (cond_both (ready_before h order t m.0.0) (item (value_expr h order done m.0.0) (items_of h order done t ps)) none NoHole (λ e. members_full t n ps m.1) (λ e. tt))

      buffer_readable : (b : ℕ) (bytes : List ℕ) (maximum : Option ℕ) → (object_at h b).kind ≡ buffer bytes maximum → MaximumFits (length bytes) maximum → ExprReadable numeral (buffer_expr h order b bytes maximum)
      buffer_readable b bytes None c m =
          let l = (bytes_formed h f b bytes None c).1 in
          cond_both (all_zero bytes) (form (buffer_form (length bytes))) (form (data_buffer (data_kind h order b) bytes)) (ExprReadable numeral) (λ e. omega arith) (λ e. kind_data h f order b bytes None c)
      buffer_readable b bytes (Some n) c m = m

      -- the view o with content v on the buffer b
      module _ (o b : ℕ) (v : ViewContent) (bytes : List ℕ) (viewed : view_in (object_at h o).kind ≡ Some v) (fits : ViewFits v.kind v.offset v.count bytes) (formed : BytesFormed bytes) where
        offset_small : Small v.offset
        offset_small = let l = fits_count v.kind v.offset v.count bytes fits formed in omega arith

        count_small : Small v.count
        count_small = let l = fits_count v.kind v.offset v.count bytes fits formed in omega arith

        start_small : Small (v.offset / width v.kind)
        start_small = let l = offset_small in let m = div-le_self v.offset (width v.kind) in omega arith

        end_small : Small (v.offset / width v.kind + v.count)
        end_small = let l = fits_count v.kind v.offset v.count bytes fits formed in let m = div-le_self v.offset (width v.kind) in omega arith

        -- a view is written on any readable expression of its buffer
        on_readable : (left_out : Bool) (e : Expr) → ExprReadable numeral e → ExprReadable numeral (view_on v.kind v.offset (cond left_out None (Some v.count)) (item e none))
        on_readable left_out e r =
            view_on_readable v.kind v.offset (cond left_out None (Some v.count)) (item e none) offset_small (maybe_small left_out v.count count_small) (r, tt)

        typed_data : is_view v.kind ≡ true → Data v.kind bytes
        typed_data t = bytes_data v.kind bytes t fits.even formed

        abbrev to_end_lem : Bool
        to_end_lem = eqb (v.offset + v.count * width v.kind) (length bytes)

        module _ (c : (object_at h b).kind ≡ buffer bytes None) where
          named_readable : (w : Option ℕ) → FirstOk (covers h order b) w → ExprReadable numeral (on_named h order o v b bytes w)
          named_readable None k = on_readable to_end_lem (name_expr h order b) (name_readable b)
          named_readable (Some w) k =
              cond_both (eqb o w) (form (new_typed v.kind bytes))
              (cond (same_kind h order v.kind (view_in (object_at h w).kind))
              (subarray_of (slot h order w) (v.offset / width v.kind) (v.offset / width v.kind + v.count) to_end_lem)
              (view_on v.kind v.offset (cond to_end_lem None (Some v.count)) (item (name_expr h order b) none)))
              (ExprReadable numeral)
              (λ e. typed_data (covers_view h f order b bytes None c o v viewed (subst (λ z. covers h order b z ≡ true) (sym (eqb-true o w e)) k)))
              (λ e. cond_both (same_kind h order v.kind (view_in (object_at h w).kind))
              (subarray_of (slot h order w) (v.offset / width v.kind) (v.offset / width v.kind + v.count) to_end_lem)
              (view_on v.kind v.offset (cond to_end_lem None (Some v.count)) (item (name_expr h order b) none))
              (ExprReadable numeral)
              (λ _. subarray_readable (slot h order w) (v.offset / width v.kind) (v.offset / width v.kind + v.count) to_end_lem (slot_small h order f a w) start_small end_small)
              (λ _. on_readable to_end_lem (name_expr h order b) (name_readable b)))

          inlined_readable : ExprReadable numeral (on_inlined h order done o v b bytes)
          inlined_readable =
              cond_both (covers h order b o) (form (new_typed v.kind bytes))
              (cond (is_view v.kind) (form (typed_part v.kind bytes (v.offset / width v.kind) (v.offset / width v.kind + v.count)))
              (view_on v.kind v.offset (cond to_end_lem None (Some v.count)) (item (get_or done (pos h order b) (form circular)) none)))
              (ExprReadable numeral)
              (λ e. typed_data (covers_view h f order b bytes None c o v viewed e))
              (λ e. cond_both (is_view v.kind) (form (typed_part v.kind bytes (v.offset / width v.kind) (v.offset / width v.kind + v.count)))
              (view_on v.kind v.offset (cond to_end_lem None (Some v.count)) (item (get_or done (pos h order b) (form circular)) none))
              (ExprReadable numeral)
              (λ t. (typed_data t, start_small, end_small))
              (λ t. on_readable to_end_lem (get_or done (pos h order b) (form circular)) (done_readable (pos h order b))))

        by_readable : (maximum : Option ℕ) → (object_at h b).kind ≡ buffer bytes maximum → ExprReadable numeral (view_by h order done o v b (Some (record { bytes = bytes; maximum = maximum })))
        by_readable None c =
            cond_both (inlines h order b) (on_inlined h order done o v b bytes) (on_named h order o v b bytes (backing h order b)) (ExprReadable numeral)
            (λ e. inlined_readable c) (λ e. named_readable c (backing h order b) (backing_ok b))
        by_readable (Some m) c = on_readable v.tracking (name_expr h order b) (name_readable b)

      view_readable : (o : ℕ) (k : ViewKind) (offset count : ℕ) (tracking : Bool) → (object_at h o).kind ≡ view k offset count tracking →
          ExprReadable numeral (view_expr h order done o (record { kind = k; offset = offset; count = count; tracking = tracking }) (edges h o))
      view_readable o k offset count tracking e =
          let v : ViewContent = record { kind = k; offset = offset; count = count; tracking = tracking } in
          let g = view_formed h f o k offset count tracking e in
          subst (λ es. ExprReadable numeral (view_expr h order done o v es)) (ap edges_of (sym g.part))
          (subst (λ c. ExprReadable numeral (view_by h order done o v g.on c)) (ap buffer_in (sym g.on_buffer))
          (by_readable o g.on v g.bytes (ap view_in e) (record { even = g.even; inside = g.inside }) (bytes_formed h f g.on g.bytes g.maximum g.on_buffer) g.maximum g.on_buffer))

      kind_readable : (o t n : ℕ) (k : Kind) (ps : List Part) → (object_at h o).kind ≡ k → KindFormed k → PartsFormed h n k ps → kind_unspelled numeral k ≡ false → All (PartWritable numeral) ps →
          ExprReadable numeral (kind_expr h order done o t k ps)
      kind_readable o t n (heaps.boolean_object v) ps e g m s w = tt
      kind_readable o t n (heaps.number_object bits) ps e g m s w = spelled numeral bits s
      kind_readable o t n (heaps.bigint_object u) ps e g m s w = g
      kind_readable o t n (heaps.string_object u) ps e g m s w = g
      kind_readable o t n (heaps.regexp u flags) ps e g m s w = g
      kind_readable o t n (heaps.date time) ps e g m s w = g
      kind_readable o t n heaps.plain ps e g m s w = (tt, items_readable t ps w, tt)
      kind_readable o t n (heaps.sparse limit) ps e g m s w = g
      kind_readable o t n (heaps.dense count) ps e g m s w = (tt, items_readable t (take count ps) (All-take (PartWritable numeral) count ps w), tt)
      kind_readable o t n heaps.map [] e g m s w = tt
      kind_readable o t n heaps.map (p ∷ ps) e g m s w = (tt, items_readable t (p ∷ ps) w, tt)
      kind_readable o t n heaps.set [] e g m s w = tt
      kind_readable o t n heaps.set (p ∷ ps) e g m s w = (tt, items_readable t (p ∷ ps) w, members_full t n (p ∷ ps) m.0)
      kind_readable o t n (heaps.buffer bytes maximum) ps e g m s w = buffer_readable o bytes maximum e g.1
      kind_readable o t n (heaps.view k offset count tracking) ps e g m s w = view_readable o k offset count tracking e
      kind_readable o t n (heaps.error name message stack) ps e g m s w = (g.0, items_readable t ps w, tt)

      -- the expression of an object, if those before it are readable
      pub object_readable : HeapSpelled numeral h → (o : ℕ) → ExprReadable numeral (object_expr h order done o)
      object_readable s o =
          kind_readable o (slot h order o) (length h.objects) (object_at h o).kind (object_at h o).parts refl (formed_at h f o).0 (formed_at h f o).1 (kind_at_lem numeral h f s o) (parts_at numeral h f s o)

    build_readable : HeapSpelled numeral h → (done : List Expr) (os : List ℕ) → All (ExprReadable numeral) done → All (ExprReadable numeral) (build_all h order done os)
    build_readable s done [] r = r
    build_readable s done (o ∷ os) r =
        build_readable s (done ++ (object_expr h order done o ∷ [])) os (All-push (ExprReadable numeral) done (object_expr h order done o) r (object_readable done r s o))

    -- the expressions of all objects
    pub built_readable : HeapSpelled numeral h → All (ExprReadable numeral) (built h order)
    built_readable s = build_readable s [] order tt
