use Rattle.std.proofs.Common.{◌∙◌, sym}
use Rattle.std.specs.Prelude.{codes}
use Rattle.sj_main.proofs.WordLemmas.{four_words, same_word}
use Rattle.sj_main.proofs.commands.order_words.Goals as goal

pub returns : goal.returns
returns c =
    let first = sym c.as_str.ensures.value ∙ same_word c.as_str.result.now (codes "order") c.ne.result c.ne.ensures c.if-ne.false in
    let last = sym c.as_str-else-ne.ensures.value ∙ same_word c.as_str-else-ne.result.now (codes "-") c.ne-else-ne.result c.ne-else-ne.ensures c.if-ne-2.false in
    let words = four_words c.args.words.now c.index-words-0.result c.index-words-1.result c.index-words-2.result c.index-words-3.result c.if-words-ne4.false c.index-words-0.is c.index-words-1.is c.index-words-2.is c.index-words-3.is in
    record { are = (let f = c.as_str-2.ensures.value in let t = c.as_bytes.ensures.value in cc) }
