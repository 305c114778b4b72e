-- What a run of headers spans.
use Rattle.std.specs.Prelude.{ℕ, ◌+◌, ◌-◌, cond, List, Some, None, Option, ◌==◌}
use Rattle.headers.specs.declared.chain.Chain.{Chain}
use Rattle.headers.specs.declared.ending.Run.{Run}
use Rattle.headers.specs.Headers.{header_at, time_of}
use Rattle.headers.specs.Following.{run_of}
use Rattle.coverage.specs.declared.spans.Span.{Span}
use Rattle.coverage.specs.declared.spans.Coverage.{Coverage}

-- the heights and the times of the first and the last of so many headers
abbrev pub span_of : ℕ → ℕ → List ℕ → Span
span_of base covered bytes = record {
  from = base;
  to = base + (covered - 1);
  early = time_of (header_at bytes 0);
  late = time_of (header_at bytes (covered - 1));
}

abbrev pub span_if : ℕ → ℕ → List ℕ → Option Span
span_if base covered bytes = cond (covered == 0) None (Some (span_of base covered bytes))

-- the run in bytes from the height base on
unfoldable pub described : ℕ → Run → List ℕ → Coverage
described base run bytes = record {
  covered = run.covered;
  span = span_if base run.covered bytes;
  ending = run.ending;
}

abbrev pub coverage_of : Chain → List ℕ → Coverage
coverage_of o bytes = described o.base (run_of o.base o.previous o.ceiling bytes) bytes
