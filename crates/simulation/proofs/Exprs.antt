-- Every planned expression evaluates: by induction on places, and by kind.
use Rattle.std.proofs.Common.{◌≡◌, ℕ, zero, suc, ◌+◌, ◌≤◌, true, List, length, get_or, Some, None, sym, refl, ap, ◌∙◌, subst, arith}
use Rattle.dump.specs.Heaps.{object, Heap, Kind, boolean_object, number_object, bigint_object, string_object, regexp, date, plain, sparse, dense, map, set, buffer, view, error, Part}
use Rattle.formed.specs.Formed.{KindFormed, PartsFormed}
use Rattle.script.specs.Syntax as syntax
use Rattle.script.specs.Syntax.{form, circular}
use Rattle.planner.specs.Visits.{mem, object_at}
use Rattle.planner.specs.Names.{count, pos, slot, backing, backed}
use Rattle.planner.specs.Builds.{kind_expr, object_expr, built}
use Rattle.evaluator.specs.Stores as stores
use Rattle.evaluator.specs.Stores.{State}
use Rattle.evaluator.specs.Isomorphic.{Pairing, big_value}
use Rattle.effects.specs.Effects.{canonical}
use Rattle.rebuilds.specs.Adequate.{Adequate}
use Rattle.rebuilds.specs.Makes.{within, one, expr_makes}
use Rattle.rebuilds.specs.Good.{Good}
use Rattle.effects.proofs.Objects.{formed_at}
use Rattle.places.proofs.Names.{unnamed, backs}
use Rattle.places.proofs.Builts.{built_at}
use Rattle.expressions.proofs.Named.{name_good}
use Rattle.expressions.proofs.Buffers.{buffer_good}
use Rattle.expressions.proofs.Backing.{backing_good}
use Rattle.expressions.proofs.Views.{view_good}
use Rattle.expressions.proofs.Plain.{same_canonical}
use Rattle.expressions.proofs.Steps.{Ready}
use Rattle.expressions.proofs.Values.{Fresh, NamesGood, PlacesGood, good_makes}
use Rattle.expressions.proofs.ByKind.{held, written_is, bare_good, plain_good, sparse_good, dense_good}
use Rattle.expressions.proofs.Objects.{set_good, map_good, error_good}
use Rattle.effects.specs.Bounded.{Bounded}

module _ (h : Heap) (f : Bounded h) (order : List ℕ) (ad : Adequate h order) where
  pub names_good : NamesGood h order
  names_good x m n own t s r lt = name_good h f order ad own r.left s t r.built.names r.built.store x m n lt

  module _ (x : ℕ) (mx : mem x order ≡ true) (nb : backed h order x ≡ None) (by_place : PlacesGood h order (pos h order x)) (own : Pairing) (t : ℕ) (s : State) (r : Ready h order own t s) (le : pos h order x ≤ t) (fresh : Fresh own (expr_makes h order x)) where
    -- the expression of an object whose kind and parts are known
    abbrev KindGood : Kind → List Part → Type 0
    KindGood k ps = Good h order own s (kind_expr h order (built h order) x (slot h order x) k ps) (object x) (expr_makes h order x)

    known : (k : Kind) (ps : List Part) → (object_at h x).kind ≡ k → (object_at h x).parts ≡ ps → Good h order own s (object_expr h order (built h order) x) (object x) (expr_makes h order x) → KindGood k ps
    known k ps ek ep g =
        subst (λ z. KindGood k z) ep (subst (λ z. KindGood z (object_at h x).parts) ek g)

    kind_good : (k : Kind) (ps : List Part) → (object_at h x).kind ≡ k → (object_at h x).parts ≡ ps → KindFormed k → PartsFormed h (length h.objects) k ps → KindGood k ps
    kind_good (boolean_object v) ps ek ep kf pf = bare_good h f order ad x mx nb t le names_good by_place own s r fresh (boolean_object v) (form (syntax.new_boolean v)) (stores.wrapped (stores.boolean v)) ek (ep ∙ pf) refl refl (refl, refl)
    kind_good (number_object bits) ps ek ep kf pf =
        bare_good h f order ad x mx nb t le names_good by_place own s r fresh (number_object bits) (form (syntax.new_number bits)) (stores.wrapped (stores.number (canonical bits))) ek (ep ∙ pf) refl refl ((canonical bits, refl, same_canonical bits kf), refl)
    kind_good (bigint_object v) ps ek ep kf pf = bare_good h f order ad x mx nb t le names_good by_place own s r fresh (bigint_object v) (form (syntax.new_bigint v)) (stores.wrapped (stores.big (big_value v))) ek (ep ∙ pf) refl refl (refl, refl)
    kind_good (string_object v) ps ek ep kf pf = bare_good h f order ad x mx nb t le names_good by_place own s r fresh (string_object v) (form (syntax.new_string v)) (stores.wrapped (stores.text v)) ek (ep ∙ pf) refl refl (refl, refl)
    kind_good (regexp v flags) ps ek ep kf pf = bare_good h f order ad x mx nb t le names_good by_place own s r fresh (regexp v flags) (form (syntax.new_regexp v flags)) (stores.regexp v flags) ek (ep ∙ pf) refl refl (refl, refl)
    kind_good (date time) ps ek ep kf pf = bare_good h f order ad x mx nb t le names_good by_place own s r fresh (date time) (form (syntax.new_date time)) (stores.date time) ek (ep ∙ pf) refl refl (refl, refl)
    kind_good plain ps ek ep kf pf = plain_good h f order ad x mx nb t le names_good by_place own s r fresh ps ek ep pf
    kind_good (sparse n) ps ek ep kf pf = sparse_good h f order ad x mx nb t le names_good by_place own s r fresh n ps ek ep pf
    kind_good (dense n) ps ek ep kf pf = dense_good h f order ad x mx nb t le names_good by_place own s r fresh n ps ek ep pf
    kind_good map ps ek ep kf pf = known map ps ek ep (map_good h f order ad names_good (pos h order x) by_place x t own s r ek (held h f order ad x mx nb t le) fresh)
    kind_good set ps ek ep kf pf = known set ps ek ep (set_good h f order ad names_good (pos h order x) by_place x t own s r ek (held h f order ad x mx nb t le) fresh)
    kind_good (buffer bytes maximum) ps ek ep kf pf =
        good_makes h order (λ y. one y x) (expr_makes h order x) (λ y. let w = ap (λ z. count y (within h order z)) (written_is h f order ad x mx nb t le (buffer bytes maximum) ps ek ep) in omega arith)
        (buffer_good h f order x bytes maximum ek own r.left s r.built.store)
    kind_good (view k offset n tracking) ps ek ep kf pf = known (view k offset n tracking) ps ek ep (view_good h f order ad own r.left s t r.built.names r.built.store x k offset n tracking mx ek nb le)
    kind_good (error e message stack) ps ek ep kf pf = known (error e message stack) ps ek ep (error_good h f order ad names_good (pos h order x) by_place x t own s r e message stack ek (held h f order ad x mx nb t le) fresh)

    pub object_good : Good h order own s (get_or (built h order) (pos h order x) (form circular)) (object x) (expr_makes h order x)
    object_good =
        let w = formed_at h f x in
        subst (λ z. Good h order own s z (object x) (expr_makes h order x)) (sym (built_at h f order ad x mx)) (kind_good (object_at h x).kind (object_at h x).parts refl refl w.0 w.1)

  -- by the number of places below
  below_good : (n : ℕ) → PlacesGood h order n
  below_good zero j m un lt own t s r le fresh = absurd (omega arith)
  below_good (suc n) j m un lt own t s r le fresh =
      object_good j m (unnamed h order j un).1 (λ i mi ui li own' t' s' r' le' fresh'. below_good n i mi ui (omega arith) own' t' s' r' le' fresh') own t s r le fresh

  pub places_good : (n : ℕ) → PlacesGood h order n
  places_good = below_good

  pub self_good : (x : ℕ) → mem x order ≡ true → backed h order x ≡ None → (own : Pairing) (t : ℕ) (s : State) → Ready h order own t s → pos h order x ≤ t → Fresh own (expr_makes h order x) → Good h order own s (get_or (built h order) (pos h order x) (form circular)) (object x) (expr_makes h order x)
  self_good x m nb own t s r le fresh = object_good x m nb (below_good (pos h order x)) own t s r le fresh

  pub over_good : (b w : ℕ) → mem b order ≡ true → backing h order b ≡ Some w → (own : Pairing) (t : ℕ) (s : State) → Ready h order own t s → Good h order own s (get_or (built h order) (pos h order w) (form circular)) (object w) (λ y. one y b + one y w)
  over_good b w m e own t s r =
      let k = backs h f order ad b w m e in
      subst (λ z. Good h order own s z (object w) (λ y. one y b + one y w)) (sym (built_at h f order ad w k.member)) (backing_good h f order ad b w k own r.left s r.built.store)
