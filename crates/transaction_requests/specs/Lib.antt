-- Read in this order; the comment behind a name says what the file is for.
pub mod Reading  -- request_of: what a payload says as a request, or the first field that is refused
pub mod Text  -- managed: the text of the batch that a request stands for
-- Cited by private contracts alone.
pub mod Fields  -- seen: the request of fields that lie in a payload
