-- The scripts of the sample heaps in Repl form, line by line.
use Rattle.std.specs.Prelude.{◌≡◌, ℕ, List, [], ◌∷◌, ◌++◌, map, None, Ok, codes, Option, Result}
use Rattle.std.specs.List.{AllByRecursion}
use Rattle.dump.specs.declared.refusal.Refusal.{Refusal}
use Rattle.rules.specs.Verdicts.{verdict}
use Rattle.dump.specs.Rules.{and_then}
use Rattle.script.specs.Items.{Line, all, line}
use Rattle.script.specs.Texts.{stmt_items}
use Rattle.planner.specs.Lines.{Format, repl, Plan, planned}
use Rattle.samples.specs.Rebuilds.{Rebuilt}
use Rattle.samples.specs.Dumps.{Sample, five, empty_map, empty_object, ring, shared, ring_map, holed, escapes}

-- no double has a numeral
abbrev pub no_numerals : ℕ → Option (List ℕ)
no_numerals bits = None

abbrev pub texts : Plan → List Line
texts p = map (λ s. line no_numerals (stmt_items p.base s)) p.lines

-- the lines of a dump's script
abbrev pub script : List ℕ → Format → Result (List Line) Refusal
script b f = and_then (verdict b) (λ h. and_then (planned no_numerals h f) (λ p. Ok (texts p)))

pub record Script : Type 0 where
  pub sample : Sample
  pub lines : List Line

-- a line, with its line end
abbrev pub ended : List ℕ → Line
ended t = all (t ++ (10 ∷ []))

abbrev pub scripts : List Script
scripts =
    record { sample = five; lines = all (codes "5") ∷ [] }
    ∷ record { sample = empty_map; lines = ended (codes "new Map()") ∷ [] }
    ∷ record { sample = empty_object; lines = all (codes "({" ++ (10 ∷ codes "})")) ∷ [] }
    ∷ record {
      sample = ring;
      lines =
          ended (codes "const v0 = {" ++ (10 ∷ codes "  \"me\": undefined /* circular */,") ++ (10 ∷ codes "};"))
          ∷ ended (codes "v0[\"me\"] = v0;")
          ∷ all (codes "v0")
          ∷ [];
    }
    ∷ record {
      sample = shared;
      lines =
          ended (codes "const v0 = new Date(0);")
          ∷ all (codes "({" ++ (10 ∷ codes "  \"p\": v0,") ++ (10 ∷ codes "  \"q\": v0,") ++ (10 ∷ codes "})"))
          ∷ [];
    }
    ∷ record {
      sample = ring_map;
      lines =
          ended (codes "const v0 = new Map([" ++ (10 ∷ codes "]);"))
          ∷ ended (codes "v0.set(1, v0);")
          ∷ ended (codes "v0.set(2, 3);")
          ∷ all (codes "v0")
          ∷ [];
    }
    ∷ record { sample = holed; lines = all (codes "[" ++ (10 ∷ codes "  1,") ++ (10 ∷ codes "  /* hole */,") ++ (10 ∷ codes "]")) ∷ [] }
    ∷ record { sample = escapes; lines = all (codes "\"\\\"\\u{a}\\u{d800}A\"") ∷ [] }
    ∷ []

-- each sample dump has just this script
abbrev pub ScriptsStand : Type 0
ScriptsStand = AllByRecursion (λ s. script s.sample.dump repl ≡ Ok s.lines) scripts

-- each script runs on the evaluator, and rebuilds its heap
abbrev pub ScriptsRebuild : Type 0
ScriptsRebuild = AllByRecursion (λ s. Rebuilt s.sample.heap s.lines) scripts
