-- A buffer's first bytes overwritten by `new K(buffer).set([..])`.
use Rattle.std.proofs.Common.{◌≡◌, ℕ, zero, suc, ◌-◌, ◌*◌, ◌/◌, ◌%◌, ◌≤◌, Bool, true, false, cond, ◌&&◌, eqb, leb, ◌⊎◌, List, [], ◌∷◌, ◌++◌, length, is_some, Some, None, codes, Option, sym, refl, ap, ◌∙◌, subst, inl, inr, ⊎_elim, le-div_iff_mul-le, arith}
use native.Mathlib.Nat.{sub-zero}
use Rattle.std.proofs.lemmas.Bool.{le-leb, leb-true}
use Rattle.dump.specs.declared.kinds.ViewKind.{ViewKind}
use Rattle.dump.specs.Kinds.{width}
use Rattle.script.specs.Texts.{view_name, numbers, listing}
use Rattle.evaluator.specs.Options.{and_then, when, or_else, nth}
use Rattle.evaluator.specs.Stores.{Val, undefined, null, boolean, number, big, text, ref, buffer, view, single, Obj, State, Made, made, change, place}
use Rattle.evaluator.specs.Makes.{width_of, sort_of, list_of, BufferHeld, buffer_in, ViewHeld, view_held, buffer_at, elements, place_view, view_on, construct, count_in, overwritten, set_bytes, set_pair, call}
use Rattle.effects.specs.Effects.{grown, list_vals, listed, somes, filled, filled_by}
use Rattle.effects.specs.Readable.{Data}
use Rattle.leaves.proofs.Lists.{width_some, somes_length, lists_back, list_of_lem}
use Rattle.leaves.proofs.Constructs.{width_of_lem, nth_at, view_whole}

-- the buffer as it is afterwards
abbrev pub rewritten : List ℕ → BufferHeld → Obj
rewritten bytes b = record { shape = buffer (overwritten 0 bytes b.bytes) b.maximum; slots = [] }

-- a view of kind k from the start of what stands at place p
abbrev pub view_from : ViewKind → Option ℕ → ℕ → Obj
view_from k c p = record { shape = view k 0 c; slots = single (ref p) ∷ [] }

abbrev held_from : ViewKind → Option ℕ → ℕ → ViewHeld
held_from k c p = record { kind = k; offset = 0; count = c; on = ref p }

-- v.set(list), for such a view at place q and a list at place r
set_view : (k : ViewKind) (c : Option ℕ) (p q r : ℕ) (b : BufferHeld) (vs : List Val) (bytes : List ℕ) (s : State) →
    nth s.objects q ≡ Some (view_from k c p) → buffer_at s (ref p) ≡ Some b → list_of s (ref r) ≡ Some vs → elements (sort_of k) (width_of k) vs ≡ Some bytes → leb (length vs) (count_in (held_from k c p) b) ≡ true →
    call (codes "set") (ref q) (ref r ∷ []) s ≡ made undefined (change p (rewritten bytes b) s)
set_view k c p q r b vs bytes s h on l e fits =
    (λ i. or_else (and_then (h i) (λ o. set_pair q o.shape o.slots (ref r ∷ []) s)) (and_then (and_then (h i) (λ o. view_held o.shape o.slots)) (λ w. and_then (buffer_at s w.on) (λ x. and_then (list_of s (ref r)) (λ us. set_bytes w x us s)))))
    ∙ (λ i. and_then (on i) (λ x. and_then (l i) (λ us. set_bytes (held_from k c p) x us s)))
    ∙ (λ i. and_then (e i) (λ bs. when (leb (length vs) (count_in (held_from k c p) b)) (made undefined (change p (rewritten bs b) s))))
    ∙ ap (λ t. when t (made undefined (change p (rewritten bytes b) s))) fits

-- what is in a store stays where it is
pub nth_front : {A : Type 0} (xs ys : List A) (n : ℕ) (x : A) → nth xs n ≡ Some x → nth (xs ++ ys) n ≡ Some x
nth_front [] ys n x h = absurd (let z : ◌≡◌ {A = ℕ} 0 1 = cc in omega arith)
nth_front (y ∷ xs) ys zero x h = h
nth_front (y ∷ xs) ys (suc n) x h = nth_front xs ys n x h

pub buffer_front : (s : State) (new : List Obj) (p : ℕ) (b : BufferHeld) → buffer_at s (ref p) ≡ Some b → buffer_at (grown s new) (ref p) ≡ Some b
buffer_front s new p b h = go (nth s.objects p) refl h
  where
    go : (o : Option Obj) → nth s.objects p ≡ o → and_then o (λ x. buffer_in x.shape) ≡ Some b → buffer_at (grown s new) (ref p) ≡ Some b
    go None e h = absurd (let z : ◌≡◌ {A = ℕ} 0 1 = cc in omega arith)
    go (Some x) e h = ap (λ o. and_then o (λ y. buffer_in y.shape)) (nth_front s.objects new p x e) ∙ h

-- The view that is made has room for all elements of the buffer.
record OnBuffer (k : ViewKind) (p : ℕ) (b : BufferHeld) (s : State) (w : Made) : Type 0 where
  count : Option ℕ
  is : w ≡ record { val = ref (length s.objects); state = grown s (view_from k count p ∷ []) }
  counts : count_in (held_from k count p) b ≡ (length b.bytes - 0) / width_of k

either : {A : Type 0} (x y z : Bool) (a b c : A) → when x (cond y (Some a) (when z (Some b))) ≡ Some c → (c ≡ a) ⊎ (c ≡ b)
either true true z a b c h = inl cc
either true false true a b c h = inr cc
either true false false a b c h = absurd (let z : ◌≡◌ {A = ℕ} 0 1 = cc in omega arith)
either false y z a b c h = absurd (let z : ◌≡◌ {A = ℕ} 0 1 = cc in omega arith)

on_buffer : (k : ViewKind) (p : ℕ) (b : BufferHeld) (s : State) (w : Made) → place_view k (ref p) 0 None b s ≡ Some w → OnBuffer k p b s w
on_buffer k p b s w h =
    let c : Option ℕ = Some ((length b.bytes - 0) / width_of k) in
    ⊎_elim (λ e. record { count = None; is = e; counts = refl }) (λ e. record { count = c; is = e; counts = refl })
    (either (eqb (0 % width_of k) 0 && leb 0 (length b.bytes)) (is_some b.maximum) (eqb (length b.bytes % width_of k) 0)
    (record { val = ref (length s.objects); state = grown s (view_from k None p ∷ []) })
    (record { val = ref (length s.objects); state = grown s (view_from k c p ∷ []) }) w h)

-- only a reference has a place
pub placed : (v : Val) (p : ℕ) → place v ≡ Some p → v ≡ ref p
placed undefined p h = absurd (let z : ◌≡◌ {A = ℕ} 0 1 = cc in omega arith)
placed null p h = absurd (let z : ◌≡◌ {A = ℕ} 0 1 = cc in omega arith)
placed (boolean b) p h = absurd (let z : ◌≡◌ {A = ℕ} 0 1 = cc in omega arith)
placed (number n) p h = absurd (let z : ◌≡◌ {A = ℕ} 0 1 = cc in omega arith)
placed (big x) p h = absurd (let z : ◌≡◌ {A = ℕ} 0 1 = cc in omega arith)
placed (text t) p h = absurd (let z : ◌≡◌ {A = ℕ} 0 1 = cc in omega arith)
placed (ref n) p h = ap ref cc

-- what a bytes line comes to: the view, and the call with the list behind it
pub record Filled (k : ViewKind) (target : Val) (minus big? : Bool) (bytes : List ℕ) (s t : State) : Type 0 where
  pub on : Made
  pub constructed : construct (view_name k) (target ∷ []) s ≡ Some on
  pub done : call (codes "set") on.val (ref (length on.state.objects) ∷ []) (grown on.state (listed minus big? (width k) bytes ∷ [])) ≡ made undefined t

module _ (k : ViewKind) (bytes : List ℕ) (minus big? : Bool) (d : Data k bytes) (numeric : listing k ≡ numbers minus big?) where
  abbrev l : Obj
  l = listed minus big? (width k) bytes

  abbrev vs : List Val
  vs = somes (list_vals minus big? (width k) [] bytes)

  -- there is room for as many values as there are bytes in whole elements
  room : (most : ℕ) → length bytes ≤ most → length vs ≤ (most - 0) / width_of k
  room most h =
      let a : length vs * width k ≡ length bytes = ap (λ n. n * width k) (somes_length minus big? (width k) [] bytes) ∙ (lists_back k bytes minus big? d numeric).whole in
      let e : most / width k ≡ (most - 0) / width_of k = sym (λ i. sub-zero most i / width_of_lem k i) in
      subst (λ m. length vs ≤ m) e ((le-div_iff_mul-le (width_some k)).1 (omega arith))

  set_done : (p : ℕ) (b : BufferHeld) (s : State) (w : Made) → buffer_at s (ref p) ≡ Some b → OnBuffer k p b s w → length bytes ≤ length b.bytes →
      call (codes "set") w.val (ref (length w.state.objects) ∷ []) (grown w.state (l ∷ [])) ≡ made undefined (change p (rewritten bytes b) (grown w.state (l ∷ [])))
  set_done p b s w h o fits =
      subst (λ x. call (codes "set") x.val (ref (length x.state.objects) ∷ []) (grown x.state (l ∷ [])) ≡ made undefined (change p (rewritten bytes b) (grown x.state (l ∷ [])))) (sym o.is)
      (set_view k o.count p (length s.objects) (length one.objects) b vs bytes (grown one (l ∷ []))
      (nth_front one.objects (l ∷ []) (length s.objects) (view_from k o.count p) (nth_at s.objects (view_from k o.count p ∷ []) (length s.objects) 0 (omega arith)))
      (buffer_front one (l ∷ []) p b (buffer_front s (view_from k o.count p ∷ []) p b h))
      (list_of_lem (grown one (l ∷ [])) (length one.objects) minus big? (width k) bytes (nth_at one.objects (l ∷ []) (length one.objects) 0 (omega arith)))
      (ap (λ m. elements (sort_of k) m vs) (width_of_lem k) ∙ (lists_back k bytes minus big? d numeric).back)
      (le-leb (length vs) _ (subst (λ m. length vs ≤ m) (sym o.counts) (room (length b.bytes) fits))))
    where
      one : State
      one = grown s (view_from k o.count p ∷ [])

  fill_at : (p : ℕ) (s t : State) → filled p (ref p) k minus big? bytes s ≡ Some t → Filled k (ref p) minus big? bytes s t
  fill_at p s t = by_buffer (buffer_at s (ref p)) refl
    where
      after : BufferHeld → Made → State
      after b w = change p (rewritten bytes b) (grown w.state (l ∷ []))

      by_test : (b : BufferHeld) (w : Made) → buffer_at s (ref p) ≡ Some b → view_on k (ref p) 0 None s ≡ Some w → (c : Bool) → leb (length bytes) (length b.bytes) ≡ c → when c (Some (after b w)) ≡ Some t → Filled k (ref p) minus big? bytes s t
      by_test b w eb ew true ec h =
          let o = on_buffer k p b s w (sym (ap (λ x. and_then x (λ y. place_view k (ref p) 0 None y s)) eb) ∙ ew) in
          let e : after b w ≡ t = cc in
          record { on = w; constructed = view_whole k s (ref p) w ew; done = set_done p b s w eb o (leb-true (length bytes) (length b.bytes) ec) ∙ ap (made undefined) e }
      by_test b w eb ew false ec h = absurd (let z : ◌≡◌ {A = ℕ} 0 1 = cc in omega arith)

      by_view_lem : (b : BufferHeld) → buffer_at s (ref p) ≡ Some b → (x : Option Made) → view_on k (ref p) 0 None s ≡ x → and_then x (λ w. when (leb (length bytes) (length b.bytes)) (Some (after b w))) ≡ Some t → Filled k (ref p) minus big? bytes s t
      by_view_lem b eb None ew h = absurd (let z : ◌≡◌ {A = ℕ} 0 1 = cc in omega arith)
      by_view_lem b eb (Some w) ew h = by_test b w eb ew (leb (length bytes) (length b.bytes)) refl h

      by_buffer : (x : Option BufferHeld) → buffer_at s (ref p) ≡ x → and_then x (λ b. and_then (view_on k (ref p) 0 None s) (λ w. when (leb (length bytes) (length b.bytes)) (Some (after b w)))) ≡ Some t → Filled k (ref p) minus big? bytes s t
      by_buffer None eb h = absurd (let z : ◌≡◌ {A = ℕ} 0 1 = cc in omega arith)
      by_buffer (Some b) eb h = by_view_lem b eb (view_on k (ref p) 0 None s) refl h

  pub fill_made : (p : ℕ) (target : Val) (s t : State) → place target ≡ Some p → filled_by (listing k) p target k bytes s ≡ Some t → Filled k target minus big? bytes s t
  fill_made p target s t e h =
      let r : ref p ≡ target = sym (placed target p e) in
      subst (λ v. Filled k v minus big? bytes s t) r (fill_at p s t (subst (λ v. filled p v k minus big? bytes s ≡ Some t) (sym r) (subst (λ x. filled_by x p target k bytes s ≡ Some t) numeric h)))
