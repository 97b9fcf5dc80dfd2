-- `ask` meets its contract: the library's searches are the definitions'.
use mathlib.Core.Bool.{Bool}
use mathlib.Core.Path.{sym, ◌∙◌}
use borrow.Author.Rules.{rules}
use borrow.Author.Tests.{tests}
use Rattle.std.proofs.lemmas.Iterator.{YieldsList-from_slice}
use Rattle.std.proofs.lemmas.Iterator.Search.{any_from_yields_List}
use Rattle.call.specs.declared.Call.{Call}
use Rattle.call.specs.Calls.{opens}
use Rattle.call.specs.Words.{holds_word, lacks}
use Rattle.call.proofs.Chains.{any_any}
use Rattle.call.proofs.memory.Asking.{asked_lacked, asked_held, asked_none}
use Rattle.call.proofs.memory.ask.Goals as goal

pub returns-then-any : goal.returns-then-any
returns-then-any c =
    let row = opens c.args.calls.now in
    let test : Call → Bool = λ call. lacks call c.args.message.now c.args.memory.now in
    let searched = any_from_yields_List test _ _ c.any.result c.any.ensures.ran (YieldsList-from_slice row cc) (λ x b q k. search (rules, tests)) in
    sym (asked_lacked row c.args.message.now c.args.memory.now (sym (any_any test row) ∙ sym searched ∙ c.if-any.true))

pub returns-then-any-2 : goal.returns-then-any-2
returns-then-any-2 c =
    let row = opens c.args.calls.now in
    let test : Call → Bool = λ call. lacks call c.args.message.now c.args.memory.now in
    let searched = any_from_yields_List test _ _ c.any.result c.any.ensures.ran (YieldsList-from_slice row cc) (λ x b q k. search (rules, tests)) in
    let holds : Call → Bool = λ call. holds_word call c.args.message.now in
    let found = any_from_yields_List holds _ _ c.any-2.result c.any-2.ensures.ran (YieldsList-from_slice row cc) (λ x b q k. search (rules, tests)) in
    sym (asked_held row c.args.message.now c.args.memory.now (sym (any_any test row) ∙ sym searched ∙ c.if-any.false) (sym (any_any holds row) ∙ sym found ∙ c.if-any-2.true))

pub returns : goal.returns
returns c =
    let row = opens c.args.calls.now in
    let holds : Call → Bool = λ call. holds_word call c.args.message.now in
    let found = any_from_yields_List holds _ _ c.any-2.result c.any-2.ensures.ran (YieldsList-from_slice row cc) (λ x b q k. search (rules, tests)) in
    sym (asked_none row c.args.message.now c.args.memory.now (sym (any_any holds row) ∙ sym found ∙ c.if-any-2.false))
