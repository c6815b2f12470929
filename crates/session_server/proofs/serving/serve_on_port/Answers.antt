use Rattle.std.proofs.Common.{◌∙◌}
use Rattle.session_server.proofs.Ended.{conversation_of, complete}
use Rattle.session_server.proofs.Wanting.{memory_wanted}
use Rattle.session_server.proofs.serving.serve_on_port.Goals as goal

pub returns-clause-conversation : goal.returns-clause-conversation
returns-clause-conversation g c = conversation_of c.roll_back_open.ensures.does c.serve_messages-end.ensures.spoke

pub returns-clause-reads : goal.returns-clause-reads
returns-clause-reads g c = record { risen = c.serve_messages-end.ensures.read_fault; still = c.serve_messages-end.ensures.no_read_fault; counted = c.serve_messages-end.ensures.reads_counted }

pub returns-clause-writes : goal.returns-clause-writes
returns-clause-writes g c = record { risen = c.serve_messages-end.ensures.write_fault; still = c.serve_messages-end.ensures.no_write_fault; counted = c.serve_messages-end.ensures.writes_counted }

pub returns-clause-complete : goal.returns-clause-complete
returns-clause-complete g c = complete g.L.Source.left g.L.Source.given c.args.line.now c.serve_messages-end.new.line c.serve_messages-end.ensures.spoke.heard

pub returns-clause-session : goal.returns-clause-session
returns-clause-session g c = (conversation_of c.roll_back_open.ensures.does c.serve_messages-end.ensures.spoke).means.past.session ∙ c.requires.session

pub returns-clause-memory : goal.returns-clause-memory
returns-clause-memory g c = λ wanting.
    let said = conversation_of c.roll_back_open.ensures.does c.serve_messages-end.ensures.spoke in
    (said.heard.taken, said.heard.from_source, memory_wanted _ _ _ _ _ _ _ _ _ said wanting)
