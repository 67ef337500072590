use Rattle.std.proofs.Common.{◌≡◌, ◌∙◌, ◌≤◌, ◌++◌, ap, subst, sym, rules, map, max}
use Rattle.round_lang.specs.Syntax.{ProgramTree}
use Rattle.step_code.specs.Assignments.{starts_top}
use Rattle.step_code.specs.Compiled.{BlocksNumbers, IsCompiled, IsSafe, SendsFields, block_view}
use Rattle.step_code.specs.Layout.{block_code, blocks_top, message_place, room_of, start_names}
use Rattle.step_code.proofs.Safe.{kept}
use Rattle.step_code.proofs.TypedParts.{counted_blocks}
use Rattle.step_code.proofs.program.compile.Goals as goal

pub invariant_of-result : goal.invariant_of-result
invariant_of-result c =
    let q : ProgramTree = c.args.program.now in
    let tree : c.program-tree.result.now ≡ q = c.program-tree.ensures in
    let blocks = c.blocks-2.ensures ∙ ap (λ (t : ProgramTree). t.blocks) tree in
    let few : q.values ≤ 64 = subst (λ n. n ≤ 64) (c.values-k.ensures.value
    ∙ ap (λ (t : ProgramTree). t.values) tree) c.values-k.ensures.few in
    let message : c.in_ok-message.message ≡ message_place q = search rules in
    let top : c.in_ok-top.top ≡ blocks_top q q.blocks =
    c.in_ok-top.ensures.top ∙ ap (blocks_top c.program-tree.result.now) blocks
    ∙ ap (λ (t : ProgramTree). blocks_top t q.blocks) tree in
    let room : c.max.result ≡ room_of q = c.max.ensures
    ∙ ap (λ n. max n c.in_ok-top.top) c.in_ok-start.ensures.top
    ∙ ap (max (starts_top q.values (start_names q) q.variables (message_place q))) top in
    let codes : map block_view c.compile_blocks.new.codes.items ≡ map (block_code q) q.blocks =
    c.in_ok-top.ensures.codes
    ∙ ap (λ l. map block_view l
    ++ map (block_code c.program-tree.result.now) c.blocks-2.result.now)
    c.new-blocks.ensures.items ∙ ap (map (block_code c.program-tree.result.now)) blocks
    ∙ ap (λ (t : ProgramTree). map (block_code t) q.blocks) tree in
    let k = kept q c.max.result c.in_ok-message.message c.in_ok-start.start.code.items
    (map block_view c.compile_blocks.new.codes.items) c.typed.ensures few room message
    c.in_ok-start.ensures.code codes c.in_ok-start.ensures.numbers
    (subst BlocksNumbers blocks c.in_ok-top.ensures.numbers) in
    let same = sym c.in_ok-copy.ensures in
    record {
      compiled = subst (λ (p : ProgramTree). IsCompiled p c.max.result c.in_ok-message.message
          c.in_ok-start.start.code.items (map block_view c.compile_blocks.new.codes.items)) same
          k.0;
      safe = subst (λ (p : ProgramTree). IsSafe p.values c.max.result c.in_ok-start.start.code.items
          (map block_view c.compile_blocks.new.codes.items)) same k.1;
    }

pub compile_blocks-requires-clause-counted : goal.compile_blocks-requires-clause-counted
compile_blocks-requires-clause-counted c =
    let q : ProgramTree = c.args.program.now in
    let tree : c.program-tree.result.now ≡ q = c.program-tree.ensures in
    subst SendsFields (sym (c.blocks-2.ensures ∙ ap (λ (t : ProgramTree). t.blocks) tree))
    (counted_blocks q c.typed.ensures)
