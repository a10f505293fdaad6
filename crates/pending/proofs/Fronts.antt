-- Parts that are added one by one: those at the front are there, and the next follow-up in order adds the next part.
use Rattle.std.proofs.Common.{◌≡◌, ℕ, suc, Bool, true, false, cond, List, [], ◌∷◌, ◌++◌, MatchBool, sym, refl, ap, ◌∙◌, subst, append_assoc, append-nil, arith}
use Rattle.std.specs.List.{AllByRecursion as All}
use Rattle.dump.specs.Heaps.{Part, property, element, entry, member, below, cause}
use Rattle.formed.specs.Formed.{PropertyFormed, EntryFormed, MemberFormed}
use Rattle.planner.specs.Lates.{Task, sets, puts, adds, Late}
use Rattle.evaluator.specs.Stores.{Slot}
use Rattle.evaluator.specs.Isomorphic.{Pairing, AlikeParts, is_hole}
pub use Rattle.pending.proofs.Lists.{all_before, all_behind}
use Rattle.rebuilds.specs.Pending.{ordered_tasks, part_tasks, Front}

-- the tasks of the ordered ones of two lists
pub ordered-++ : (K L : List Late) → ordered_tasks (K ++ L) ≡ ordered_tasks K ++ ordered_tasks L
ordered-++ [] L = refl
ordered-++ (l ∷ K) L = go (ordered_tasks (K ++ L)) (ordered_tasks K) (ordered_tasks L) l.ordered (ordered-++ K L)
  where
    go : (xs ys zs : List Task) (b : Bool) → xs ≡ ys ++ zs → cond b (l.task ∷ xs) xs ≡ cond b (l.task ∷ ys) ys ++ zs
    go xs ys zs true e = ap (λ x. l.task ∷ x) e
    go xs ys zs false e = e

-- one that is not ordered leaves them as they are
pub ordered_without : (K L : List Late) (l : Late) → l.ordered ≡ false → ordered_tasks (K ++ (l ∷ L)) ≡ ordered_tasks (K ++ L)
ordered_without K L l e = ordered-++ K (l ∷ L) ∙ ap (λ b. ordered_tasks K ++ cond b (l.task ∷ ordered_tasks L) (ordered_tasks L)) e ∙ sym (ordered-++ K L)

-- a part that a task adds
abbrev pub Adds : Task → Part → Type 0
Adds t p = (ps : List Part) → part_tasks (p ∷ ps) ≡ t ∷ part_tasks ps

abbrev pub Added : Part → Type 0
Added p = (t : Task) × Adds t p

pub property_added : (n limit : ℕ) (array : Bool) (p : Part) → PropertyFormed n limit array p → Added p
property_added n limit array p f = subst Added (sym f.2) (sets f.0 f.1, λ ps. refl)

pub entry_added : (n : ℕ) (p : Part) → EntryFormed n p → Added p
entry_added n p f = subst Added (sym f.2) (puts f.0 f.1, λ ps. refl)

pub member_added : (n : ℕ) (p : Part) → MemberFormed n p → Added p
member_added n p f = subst Added (sym f.1) (adds f.0, λ ps. refl)

-- parts and slots, and more of them
pub parts-++ : (own : Pairing) (i : ℕ) (ps qs : List Part) (ss us : List Slot) → AlikeParts own i ps ss → ((j : ℕ) → AlikeParts own j qs us) → AlikeParts own i (ps ++ qs) (ss ++ us)
parts-++ own i [] qs ss us a b = subst (λ z. AlikeParts own i qs (z ++ us)) (sym a) (b i)
parts-++ own i (property k v ∷ ps) qs ss us a b = (a.0, a.1 ++ us, ap (λ z. z ++ us) a.2, a.3, parts-++ own i ps qs a.1 us a.4 b)
parts-++ own i (element v ∷ ps) qs ss us a b =
    go (is_hole v) (λ c. parts-++ own (suc i) ps qs ss us c b) (λ c. (c.0, c.1 ++ us, ap (λ z. z ++ us) c.2, c.3, parts-++ own (suc i) ps qs c.1 us c.4 b)) a
  where
    go : {X Y X' Y' : Type 0} (t : Bool) → (X → X') → (Y → Y') → MatchBool t X Y → MatchBool t X' Y'
    go true f g c = f c
    go false f g c = g c
parts-++ own i (entry k v ∷ ps) qs ss us a b = (a.0, a.1, a.2 ++ us, ap (λ z. z ++ us) a.3, a.4, a.5, parts-++ own i ps qs a.2 us a.6 b)
parts-++ own i (member v ∷ ps) qs ss us a b = (a.0, a.1 ++ us, ap (λ z. z ++ us) a.2, a.3, parts-++ own i ps qs a.1 us a.4 b)
parts-++ own i (below o ∷ ps) qs ss us a b = (a.0, a.1 ++ us, ap (λ z. z ++ us) a.2, a.3, parts-++ own i ps qs a.1 us a.4 b)
parts-++ own i (cause v ∷ ps) qs ss us a b = (a.0, a.1 ++ us, ap (λ z. z ++ us) a.2, a.3, parts-++ own i ps qs a.1 us a.4 b)

none_added : (t : Task) → [] ≡ t ∷ [] → ⊥
none_added t e = let z : ◌≡◌ {A = ℕ} 0 1 = cc in omega arith

-- where there is no element, the index counts nothing
pub parts_any : (own : Pairing) (i j : ℕ) (ps : List Part) (ss : List Slot) → All Added ps → AlikeParts own i ps ss → AlikeParts own j ps ss
parts_any own i j [] ss f a = a
parts_any own i j (property k v ∷ ps) ss f a = (a.0, a.1, a.2, a.3, parts_any own i j ps a.1 f.1 a.4)
parts_any own i j (element v ∷ ps) ss f a = absurd (none_added f.0.0 (f.0.1 []))
parts_any own i j (entry k v ∷ ps) ss f a = (a.0, a.1, a.2, a.3, a.4, a.5, parts_any own i j ps a.2 f.1 a.6)
parts_any own i j (member v ∷ ps) ss f a = (a.0, a.1, a.2, a.3, parts_any own i j ps a.1 f.1 a.4)
parts_any own i j (below o ∷ ps) ss f a = absurd (none_added f.0.0 (f.0.1 []))
parts_any own i j (cause v ∷ ps) ss f a = absurd (none_added f.0.0 (f.0.1 []))

-- with nothing to come all parts are there
pub front_done : (own : Pairing) (ps : List Part) (ss : List Slot) → All Added ps → Front own [] ps ss → AlikeParts own 0 ps ss
front_done own ps ss added f =
    subst (λ z. AlikeParts own 0 z ss)
    (sym (append-nil f.front) ∙ ap (λ z. f.front ++ z) (sym (nothing f.back (all_behind Added f.front f.back (subst (All Added) f.parts added)) f.tasks)) ∙ sym f.parts)
    f.alike
  where
    nothing : (back : List Part) → All Added back → [] ≡ part_tasks back → back ≡ []
    nothing [] a e = refl
    nothing (p ∷ back) a e = absurd (let d : [] ≡ a.0.0 ∷ part_tasks back = e ∙ a.0.1 back in let z : ◌≡◌ {A = ℕ} 0 1 = cc in omega arith)

-- the part that the next follow-up in order adds
pub record Next (own : Pairing) (K L : List Late) (t : Task) (ps : List Part) (ss : List Slot) : Type 0 where
  pub front : List Part
  pub part : Part
  pub back : List Part
  pub parts : ps ≡ front ++ (part ∷ back)
  pub alike : AlikeParts own 0 front ss
  pub adds : Adds t part
  pub tasks : ordered_tasks (K ++ L) ≡ part_tasks back

pub front_next : (own : Pairing) (K L : List Late) (l : Late) (ps : List Part) (ss : List Slot) → All Added ps →
    l.ordered ≡ true → ordered_tasks K ≡ [] → Front own (K ++ (l ∷ L)) ps ss → Next own K L l.task ps ss
front_next own K L l ps ss added o k f =
    go f.back f.parts (all_behind Added f.front f.back (subst (All Added) f.parts added)) (sym head ∙ f.tasks)
  where
    head : ordered_tasks (K ++ (l ∷ L)) ≡ l.task ∷ ordered_tasks L
    head = ordered-++ K (l ∷ L) ∙ ap (λ x. x ++ ordered_tasks (l ∷ L)) k ∙ ap (λ b. cond b (l.task ∷ ordered_tasks L) (ordered_tasks L)) o

    rest : ordered_tasks (K ++ L) ≡ ordered_tasks L
    rest = ordered-++ K L ∙ ap (λ x. x ++ ordered_tasks L) k

    go : (back : List Part) → ps ≡ f.front ++ back → All Added back → l.task ∷ ordered_tasks L ≡ part_tasks back → Next own K L l.task ps ss
    go [] e a d = absurd (let z : ◌≡◌ {A = ℕ} 0 1 = cc in omega arith)
    go (p ∷ back) e a d =
        let c : l.task ∷ ordered_tasks L ≡ a.0.0 ∷ part_tasks back = d ∙ a.0.1 back in
        let same : l.task ≡ a.0.0 = cc in
        let more : ordered_tasks L ≡ part_tasks back = cc in
        record { front = f.front; part = p; back = back; parts = e; alike = f.alike; adds = subst (λ t. Adds t p) (sym same) a.0.1; tasks = rest ∙ more }

-- with its slot at the end
pub next_added : (own : Pairing) (K L : List Late) (t : Task) (ps : List Part) (ss us : List Slot) (n : Next own K L t ps ss) →
    ((j : ℕ) → AlikeParts own j (n.part ∷ []) us) → Front own (K ++ L) ps (ss ++ us)
next_added own K L t ps ss us n a =
    record {
      front = n.front ++ (n.part ∷ []);
      back = n.back;
      parts = n.parts ∙ sym (append_assoc n.front (n.part ∷ []) n.back);
      alike = parts-++ own 0 n.front (n.part ∷ []) ss us n.alike a;
      tasks = n.tasks;
    }
