-- The numbers of a refusal's fields, and the fields back from them.
use Rattle.std.specs.Prelude.{◌≡◌, ℕ, cond, refl, ◌==◌}
use Rattle.dump.specs.declared.refusal.Rule.{Rule}
use Rattle.dump.specs.declared.refusal.Rule.TheVariants.{Length, Count, Order, Words, Place, Numeral, Key, Member, Limit, Buffer}
use Rattle.dump.specs.declared.refusal.Site.{Site}
use Rattle.dump.specs.declared.refusal.Site.TheVariants.{Dump, Texts, Units, Numerals, Octets, Objects, Parts, Root}
use Rattle.dump.specs.declared.refusal.Refusal.TheInside.{Inside}
use Rattle.dump.specs.Refusals.{Told, rule_number, site_number}

abbrev pub told : Inside → Told
told a = record { number = rule_number a.rule; section = site_number a.site; «record» = a.record }

-- the rule with a number, and the last past it
unfoldable pub rule_of : ℕ → Rule
rule_of n =
    cond (n == 1) Length
    (cond (n == 2) Count
    (cond (n == 3) Order
    (cond (n == 4) Words
    (cond (n == 5) Place
    (cond (n == 6) Numeral
    (cond (n == 7) Key
    (cond (n == 8) Member
    (cond (n == 9) Limit
    Buffer))))))))

unfoldable pub site_of : ℕ → Site
site_of n =
    cond (n == 0) Dump
    (cond (n == 1) Texts
    (cond (n == 2) Units
    (cond (n == 3) Numerals
    (cond (n == 4) Octets
    (cond (n == 5) Objects
    (cond (n == 6) Parts
    Root))))))

abbrev pub untold : Told → Inside
untold t = record { rule = rule_of t.number; site = site_of t.section; «record» = t.«record» }

pub rule_back : (r : Rule) → rule_of (rule_number r) ≡ r
unfolding rule_of
rule_back Length = refl
rule_back Count = refl
rule_back Order = refl
rule_back Words = refl
rule_back Place = refl
rule_back Numeral = refl
rule_back Key = refl
rule_back Member = refl
rule_back Limit = refl
rule_back Buffer = refl

pub site_back : (s : Site) → site_of (site_number s) ≡ s
unfolding site_of
site_back Dump = refl
site_back Texts = refl
site_back Units = refl
site_back Numerals = refl
site_back Octets = refl
site_back Objects = refl
site_back Parts = refl
site_back Root = refl

pub untold_ok : (a : Inside) → untold (told a) ≡ a
untold_ok a = rw (rule_back a.rule, site_back a.site) refl
