use Rattle.std.proofs.Common.{◌≡◌, ℕ, ℤ, List, ap, ◌∙◌, subst, arith}
use Rattle.std.specs.Prelude.{Option}
use Rattle.seat_server.specs.House.{ServesFirst}
use Rattle.transfer_load.specs.Load.{ServesBytes}
use Rattle.transfer_load.specs.Replies.{summary_text}
use Rattle.transfer_load.proofs.OnlyServing.{only_both, only_more, only_none}
use Rattle.transfer_load.proofs.command.run.Goals as goal

-- the summary of equal numbers
same_summary : (a b x y : ℕ) (m n : Option ℤ) → a ≡ b → x ≡ y → m ≡ n → summary_text a x m ≡ summary_text b y n
same_summary a b x y m n first second third =
    ap (λ (k : ℕ). summary_text k x m) first ∙ ap (λ (k : ℕ). summary_text b k m) second ∙ ap (summary_text b y) third

pub returns-clause-loaded : goal.returns-clause-loaded
returns-clause-loaded g c =
    let did = c.in_ok-counts.ensures.transferred in
    let read = c.in_ok-total.ensures in
    let config = c.bare_config-config.result in
    record {
      config = config;
      bare = c.bare_config-config.ensures.bare;
      plain = c.bare_config-config.ensures.plain;
      opened = c.serve_bytes.new.house.seats;
      opening_written = c.in_ok-serve_bytes.field-0.items;
      opening = subst (λ (s : List ℕ). ServesFirst (ServesBytes config s c.in_ok-serve_bytes.field-0.items) c.args.house.now.seats c.serve_bytes.new.house.seats) c.in_ok-opening_bytes.ensures c.in_ok-serve_bytes.ensures.served;
      worked = c.transfer.new.house.seats;
      each = did.0;
      transferred = did.1;
      closing_written = c.in_ok-written.written.items;
      closing = subst (λ (s : List ℕ). ServesFirst (ServesBytes config s c.in_ok-written.written.items) c.transfer.new.house.seats c.serve_bytes-2.new.house.seats) c.in_ok-closing_bytes.ensures c.in_ok-written.ensures.served;
      reply = read.0;
      replied = read.1;
      all = omega (arith, did.2, did.3, did.4);
      printed_is = c.in_ok-text.ensures ∙ same_summary _ _ _ _ _ _ did.2 did.3 read.2;
    }

pub returns-in_err-opening_bytes-clause-only : goal.returns-in_err-opening_bytes-clause-only
returns-in_err-opening_bytes-clause-only g c = only_none c.args.workers c.args.house.now

pub returns-in_err-serve_bytes-clause-only : goal.returns-in_err-serve_bytes-clause-only
returns-in_err-serve_bytes-clause-only g c = only_more c.args.workers c.args.house.now c.serve_bytes.new.house c.requires.workers.0 c.serve_bytes.ensures.only

pub returns-in_err-counts-clause-only : goal.returns-in_err-counts-clause-only
returns-in_err-counts-clause-only g c = only_both c.args.workers c.args.house.now c.serve_bytes.new.house c.transfer.new.house (only_more c.args.workers c.args.house.now c.serve_bytes.new.house c.requires.workers.0 c.serve_bytes.ensures.only) c.transfer.ensures.only

pub returns-in_err-closing_bytes-clause-only : goal.returns-in_err-closing_bytes-clause-only
returns-in_err-closing_bytes-clause-only g c = only_both c.args.workers c.args.house.now c.serve_bytes.new.house c.transfer.new.house (only_more c.args.workers c.args.house.now c.serve_bytes.new.house c.requires.workers.0 c.serve_bytes.ensures.only) c.transfer.ensures.only

pub returns-in_err-written-clause-only : goal.returns-in_err-written-clause-only
returns-in_err-written-clause-only g c = only_both c.args.workers c.args.house.now c.transfer.new.house c.serve_bytes-2.new.house
    (only_both c.args.workers c.args.house.now c.serve_bytes.new.house c.transfer.new.house (only_more c.args.workers c.args.house.now c.serve_bytes.new.house c.requires.workers.0 c.serve_bytes.ensures.only) c.transfer.ensures.only)
    (only_more c.args.workers c.transfer.new.house c.serve_bytes-2.new.house c.requires.workers.0 c.serve_bytes-2.ensures.only)

pub returns-in_err-total-clause-only : goal.returns-in_err-total-clause-only
returns-in_err-total-clause-only g c = only_both c.args.workers c.args.house.now c.transfer.new.house c.serve_bytes-2.new.house
    (only_both c.args.workers c.args.house.now c.serve_bytes.new.house c.transfer.new.house (only_more c.args.workers c.args.house.now c.serve_bytes.new.house c.requires.workers.0 c.serve_bytes.ensures.only) c.transfer.ensures.only)
    (only_more c.args.workers c.transfer.new.house c.serve_bytes-2.new.house c.requires.workers.0 c.serve_bytes-2.ensures.only)

pub returns-in_err-text-clause-only : goal.returns-in_err-text-clause-only
returns-in_err-text-clause-only g c = only_both c.args.workers c.args.house.now c.transfer.new.house c.serve_bytes-2.new.house
    (only_both c.args.workers c.args.house.now c.serve_bytes.new.house c.transfer.new.house (only_more c.args.workers c.args.house.now c.serve_bytes.new.house c.requires.workers.0 c.serve_bytes.ensures.only) c.transfer.ensures.only)
    (only_more c.args.workers c.transfer.new.house c.serve_bytes-2.new.house c.requires.workers.0 c.serve_bytes-2.ensures.only)

pub returns-clause-only : goal.returns-clause-only
returns-clause-only g c = only_both c.args.workers c.args.house.now c.transfer.new.house c.serve_bytes-2.new.house
    (only_both c.args.workers c.args.house.now c.serve_bytes.new.house c.transfer.new.house (only_more c.args.workers c.args.house.now c.serve_bytes.new.house c.requires.workers.0 c.serve_bytes.ensures.only) c.transfer.ensures.only)
    (only_more c.args.workers c.transfer.new.house c.serve_bytes-2.new.house c.requires.workers.0 c.serve_bytes-2.ensures.only)
