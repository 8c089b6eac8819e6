-- `fetch_long` meets its contract: one test of the first word's offset tells those of both words.
use Rattle.std.proofs.Common.{sym, arith, rules}
use Rattle.processor.specs.Processor.{gpu}
use Rattle.processor.proofs.Instances.{gpu_sound}
use Rattle.memory.proofs.Offsets.{long_inside, long_outside}
use Rattle.memory.proofs.fetch_long.Goals as goal

pub returns-then-at-eq1 : goal.returns-then-at-eq1
returns-then-at-eq1 c =
    let f = c.offset-at.ensures in
    let odd = c.if-at-eq1.true in
    sym (long_outside gpu gpu_sound c.args.pc _ f.0 f.1 c.args.ram.now (search rules) (λ even l. omega (arith, odd, even)))

pub returns-then-at-lt-SIZE : goal.returns-then-at-lt-SIZE
returns-then-at-lt-SIZE c =
    let f = c.offset-at.ensures in
    let even = c.if-at-eq1.false in
    rw (c.word_at-high.ensures.0, c.word_at-low.ensures.0)
    (sym (long_inside gpu gpu_sound c.args.pc _ f.0 f.1 c.args.ram.now (search rules) (omega (arith, even)) (omega (arith, c.if-at-lt-SIZE.true))))

pub returns-else-at-lt-SIZE : goal.returns-else-at-lt-SIZE
returns-else-at-lt-SIZE c =
    let f = c.offset-at.ensures in
    let past = c.if-at-lt-SIZE.false in
    sym (long_outside gpu gpu_sound c.args.pc _ f.0 f.1 c.args.ram.now (search rules) (λ even l. omega (arith, past, l)))
