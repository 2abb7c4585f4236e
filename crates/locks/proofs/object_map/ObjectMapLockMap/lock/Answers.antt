use Rattle.std.specs.Prelude.{◌≡◌, true, nat_le}
use Rattle.std.proofs.Common.{sym, ◌∙◌, rules}
use Rattle.std.proofs.lemmas.Fn.{always_returns_same}
use Rattle.locks.specs.ObjectMap.{lawful}
use Rattle.locks.proofs.Starts.{counts_lawful, lawful_parted, guard_none, Parts, some_begun, last_start, guarded}
use Rattle.locks.proofs.object_map.ObjectMapLockMap.lock.Goals as goal

pub returns-then-self-eq0-clause-told : goal.returns-then-self-eq0-clause-told
returns-then-self-eq0-clause-told c =
    guard_none c.args.self.now.starts.now c.args.place (sym c.args.self.now.counts ∙ c.if-self-eq0.true)

fit : (c : goal.After-partition_point-up_to) → lawful c.args.self.now.starts.now ≡ true
fit c = counts_lawful c.args.self.now.starts.now (λ none. c.if-self-eq0.false (c.args.self.now.counts ∙ none))

parts : (c : goal.After-partition_point-up_to) → Parts c.args.self.now.starts.now c.args.place c.partition_point-up_to.result
parts c = c.partition_point-up_to.ensures.partitioned (λ start. nat_le start c.args.place)
    (always_returns_same _ _ _ (λ a r f' k. search rules)) (lawful_parted c.args.self.now.starts.now c.args.place (fit c))

pub overflow_sub-result : goal.overflow_sub-result
overflow_sub-result c = some_begun c.args.self.now.starts.now c.args.place _ (fit c) c.partition_point-up_to.ensures.bound (parts c)

pub returns-clause-told : goal.returns-clause-told
returns-clause-told c = guarded c.args.self.now.starts.now c.args.place _ (fit c) c.partition_point-up_to.ensures.bound (parts c)

pub returns-clause-last : goal.returns-clause-last
returns-clause-last c = λ _. last_start c.args.self.now.starts.now c.args.place _ (fit c) c.partition_point-up_to.ensures.bound (parts c)
