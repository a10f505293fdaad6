-- A refusal as numbers: of the rule, of the section, 0 for the dump as a whole, and of the record.
use Rattle.std.specs.Prelude.{ℕ}
use Rattle.dump.specs.declared.refusal.Rule.{Rule}
use Rattle.dump.specs.declared.refusal.Rule.TheVariants.{Length, Count, Order, Words, Place, Numeral, Key, Member, Limit, Buffer}
use Rattle.dump.specs.declared.refusal.Site.{Site}
use Rattle.dump.specs.declared.refusal.Site.TheVariants.{Dump, Texts, Units, Numerals, Octets, Objects, Parts, Root}

pub record Told : Type 0 where
  pub number : ℕ
  pub section : ℕ
  pub «record» : ℕ

abbrev pub rule_number : Rule → ℕ
rule_number Length = 1
rule_number Count = 2
rule_number Order = 3
rule_number Words = 4
rule_number Place = 5
rule_number Numeral = 6
rule_number Key = 7
rule_number Member = 8
rule_number Limit = 9
rule_number Buffer = 10

abbrev pub site_number : Site → ℕ
site_number Dump = 0
site_number Texts = 1
site_number Units = 2
site_number Numerals = 3
site_number Octets = 4
site_number Objects = 5
site_number Parts = 6
site_number Root = 7

abbrev pub refused : Rule → Site → ℕ → Told
refused rule site i = record { number = rule_number rule; section = site_number site; «record» = i }
