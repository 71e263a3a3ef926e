-- `put_answer` puts the lines of an accepted comparison, or the line of a refusal.
use Prim.Native.Nat.{ℕ}
use native.Mathlib.Omega.{arith}
use lib.ListN.{replicate, length-replicate}
use Rattle.profile_compare_rules.specs.Compare.{Room, lent}
use Rattle.checksum.proofs.Bytes.{bytes_of}
use Rattle.compare_profiles.specs.Lines.{refused_line}
use Rattle.compare_profiles.proofs.Answers.{answer-few, first-values, second-values, answer-written, refused-written}
use Rattle.compare_profiles.proofs.lines.put_answer.Goals as goal

-- what is lent to the comparison
abbrev zeroes : Room
zeroes = lent (replicate 256 0) (replicate 256 0) (replicate 256 0)

pub put_lines-requires : goal.put_lines-requires
put_lines-requires c =
    let s = c.args.first.now in
    let t = c.args.second.now in
    let e = c.compare-compared.ensures in
    let x = c.compare-compared.result in
    let codes = c.compare-compared.new.codes in
    let firsts = c.compare-compared.new.firsts in
    let seconds = c.compare-compared.new.seconds in
    let few = answer-few s t zeroes x codes firsts seconds e c.if-compared-eq-DONE.true in
    let zeros = length-replicate {A = ℕ} 256 0 in (
      few,
      omega (arith, c.compare-compared.auto),
      omega (arith, c.compare-compared.auto),
      omega (arith, c.compare-compared.auto),
      first-values s t zeroes x codes firsts seconds e c.if-compared-eq-DONE.true (bytes_of s (λ k. omega (arith, c.type_inv.first k))),
      second-values s t zeroes x codes firsts seconds e c.if-compared-eq-DONE.true (bytes_of t (λ k. omega (arith, c.type_inv.second k))),
      c.requires,
    )

pub returns-then-compared-eq-DONE : goal.returns-then-compared-eq-DONE
returns-then-compared-eq-DONE c =
    let l = c.put_lines.ensures in
    record {
      text = l.text;
      written = answer-written c.args.first.now c.args.second.now zeroes c.compare-compared.result c.compare-compared.new.codes c.compare-compared.new.firsts c.compare-compared.new.seconds c.compare-compared.ensures c.if-compared-eq-DONE.true l.text l.lines;
      there = l.there;
      counted = l.counted;
    }

pub returns : goal.returns
returns c =
    let zeros = length-replicate {A = ℕ} 256 0 in
    record {
      text = refused_line;
      written = refused-written c.args.first.now c.args.second.now zeroes c.compare-compared.result c.compare-compared.new.codes c.compare-compared.new.firsts c.compare-compared.new.seconds c.compare-compared.ensures c.if-compared-eq-DONE.false (omega arith) (omega arith) (omega arith);
      there = c.put_refused.ensures.0;
      counted = c.put_refused.ensures.1;
    }
