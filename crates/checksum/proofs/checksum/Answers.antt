-- `checksum::checksum` meets its contract: the words first, of which there may be none, then what is left.
use Rattle.std.proofs.Common.{◌≡◌, rules, ℕ, ◌*◌, ◌/◌, length, take, drop, sym, ap, ap₂, ◌∙◌, arith, take-append-drop}
use Rattle.std.specs.List.{fold}
use Rattle.std.specs.Simd.{first_chunks}
use Rattle.checksum.specs.Words.{folded}
use Rattle.checksum.specs.Xor.{xor_all}
use Rattle.checksum.proofs.Bytes.{bytes_of}
use Rattle.checksum.proofs.Folds.{fold_is}
use Rattle.checksum.proofs.Laws.{xor_all_nil, xor_all-append}
use Rattle.checksum.proofs.Words.{word_in, folded_byte, words_taken}
use Rattle.checksum.proofs.checksum.Goals.{then-s-lt-WORD, else-s-lt-WORD}
use Rattle.checksum.proofs.checksum.Goals as goal

pub returns : goal.returns
returns c =
    let seed = c.args.seed in
    let s = c.args.s.now in
    let n = length s / 8 in
    let words : c.if-s-lt-WORD.sum ≡ xor_all seed (take (n * 8) s) =
    elim c.if-s-lt-WORD.branch [
      | then-s-lt-WORD w ↦
          let none : n * 8 ≡ 0 = omega arith in w.sum-is ∙ sym (ap (λ (k : ℕ). xor_all seed (take k s)) none ∙ xor_all_nil seed)
      | else-s-lt-WORD w ↦
          let all : w.fold-all.result ≡ fold word_in seed (first_chunks 8 n s) =
          fold_is word_in (λ sum x next f call. search rules) w.iter.result (first_chunks 8 n s) _ _ (cc) w.fold-all.ensures.ran
          ∙ ap (λ (k : ℕ). fold word_in k (first_chunks 8 n s)) w.from.ensures in
          w.sum-is ∙ w.fold-sum.ensures ∙ ap (folded 8) all ∙ words_taken n seed s (bytes_of s (λ i. (c.type_inv.s i).fits)) (omega arith)
          ∙ ap (λ (x : ℕ). xor_all x (take (n * 8) s)) (folded_byte 7 seed c.ranges.seed.fits)
    ] in
    c.singly.ensures
    ∙ ap₂ xor_all words c.as_chunks.ensures.back
    ∙ sym (xor_all-append seed (take (n * 8) s) (drop (n * 8) s))
    ∙ ap (xor_all seed) (take-append-drop (n * 8) s)
