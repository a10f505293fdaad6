-- The line of a readable statement has all its bytes, and they do what the statement does.
use Rattle.std.proofs.Common.{ℕ, List, Option, ap, ◌∙◌}
use Rattle.std.specs.List.{AllByRecursion as All}
use Rattle.std.proofs.ByRecursion.{All-weaker}
use Rattle.speller.specs.Spelling.{Lawful}
use Rattle.script.specs.Syntax.{Stmt}
use Rattle.evaluator.specs.Options.{and_then}
use Rattle.evaluator.specs.Runs.{run_tokens}
use Rattle.effects.specs.Readable.{StmtReadable}
use Rattle.lexing.proofs.Lexed.{lexed}
use Rattle.reading.proofs.Runs.{reads}
use Rattle.traces.specs.Theorem.{Inverse}
use Rattle.faithful.specs.Runs.{LineDoes}

pub line_does : (numeral : ℕ → Option (List ℕ)) (reading : List ℕ → Option ℕ) → Lawful numeral → Inverse numeral reading → (base : ℕ) (s : Stmt) → StmtReadable numeral s → LineDoes numeral reading base s
line_does numeral reading lawful inverse base s ok =
    let l = lexed numeral lawful base s ok in
    (l.0, l.1, λ st r d. ap (λ o. and_then o (λ ts. run_tokens reading ts st)) l.2 ∙ reads numeral reading lawful inverse base s ok st r d)

-- all lines of a list of statements
pub lines_do : (numeral : ℕ → Option (List ℕ)) (reading : List ℕ → Option ℕ) → Lawful numeral → Inverse numeral reading → (base : ℕ) (ss : List Stmt) → All (StmtReadable numeral) ss → All (LineDoes numeral reading base) ss
lines_do numeral reading lawful inverse base ss = All-weaker (StmtReadable numeral) (LineDoes numeral reading base) (line_does numeral reading lawful inverse base) ss
